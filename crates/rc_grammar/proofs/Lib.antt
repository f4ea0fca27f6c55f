mod FirstByteLaws
mod FewLaws
mod Refused
mod TextLaws
mod FirstRefusal
mod PassingLaws
pub mod OldRowLaws
pub mod OldFileLaws
