pub mod Cubes
pub mod Count
pub mod Rows
pub mod PrefixRows
