pub mod Ring
pub mod Files
pub mod Names
pub mod Rows
