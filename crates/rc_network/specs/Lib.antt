pub mod Codes
pub mod Undefined
pub mod Build
pub mod Step
pub mod Twice
pub mod Files
pub mod OldFiles
pub mod Rows
