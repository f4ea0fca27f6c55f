pub mod AtAddress
pub mod Failures
pub mod Shares
pub mod Rows
