pub mod Codes
pub mod Places
pub mod Texts
pub mod Written
pub mod Rows
