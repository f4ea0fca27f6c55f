pub mod Rounds
pub mod AtAddress
pub mod Silent
pub mod Setting
pub mod Renewing
pub mod Parts
pub mod Progress
pub mod Rows
