mod AgainLaws
pub mod AloneLaws
pub mod ConnectedLaws
pub mod BestLaws
pub mod MergingLaws
mod OrderLaws
mod TableLaws
mod StaticLaws
mod LearnedLaws
mod PreferenceLaws
mod MendingLaws
mod LayingLaws
mod HeldLaws
pub mod AtAddressLaws
pub mod LoneLaws
