mod ReachLaws
pub mod PrefixLaws
mod ListLaws
mod KnownLaws
pub mod LearningLaws
mod RangeLaws
mod BestLaws
mod WayLaws
mod ChangeLaws
mod PartLaws
pub mod ListedLaws
pub mod DecidedLaws
mod PieceLaws
mod WithheldLaws
mod SettledLaws
mod LoopLaws
mod OwnLaws
mod AlikeLaws
mod InsideLaws
mod GatheringLaws
mod HearLaws
mod TellingLaws
mod UpLaws
mod InterfaceLaws
mod PairLaws
