mod Beside
mod JoinLaws
mod AskedLaws
mod LoopLaws
mod UseLaws
mod OnwardJoins
mod PlaceJoins
mod SectorJoins
mod SectoredLaws
mod UnevenLaws
pub mod ReachingLaws
mod TryLaws
