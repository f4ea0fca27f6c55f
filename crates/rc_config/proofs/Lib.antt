pub mod NamedLaws
pub mod OrderLaws
pub mod DownLaws
pub mod IfTypeLaws
pub mod ByNumberLaws
pub mod AccessListLaws
pub mod PolicyLaws
