pub mod FileLaws
pub mod TextLaws
