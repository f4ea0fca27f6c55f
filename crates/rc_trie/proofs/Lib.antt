mod OrderLaws
pub mod ScanLaws
mod SearchLaws
mod PlaceLaws
mod InsertLaws
