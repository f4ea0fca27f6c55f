pub mod Policy
pub mod Rows
