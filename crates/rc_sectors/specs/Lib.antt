pub mod Sectors
pub mod Cuts
pub mod Rows
