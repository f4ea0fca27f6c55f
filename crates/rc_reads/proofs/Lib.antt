mod ListLaws
mod SessionLaws
mod PathLaws
mod BoundaryLaws
mod OutsideLaws
mod ReadLaws
mod NameLaws
pub mod OwnLaws
pub mod StayedLaws
