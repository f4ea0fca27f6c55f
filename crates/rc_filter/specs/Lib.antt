pub mod Verdict
pub mod Groups
pub mod Rows
pub mod GroupRows
