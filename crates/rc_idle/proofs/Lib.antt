mod ListLaws
pub mod OneTold
