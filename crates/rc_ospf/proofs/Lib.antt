mod RowLaws
mod WayLaws
mod BestLaws
mod ListLaws
mod FitLaws
mod StayLaws
mod MemberLaws
mod TableLaws
mod SortedLaws
pub mod OneAnswer
mod SummaryLaws
mod WantedLaws
pub mod HoldingLaws
mod LeastWalks
mod Existence
mod FirstHopLaws
mod AskedLaws
mod GroundLaws
mod TakingLaws
