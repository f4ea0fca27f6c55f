pub mod StartLaws
pub mod StretchLaws
pub mod HandLaws
pub mod MakingLaws
