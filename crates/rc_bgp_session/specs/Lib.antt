pub mod Passing
pub mod Nets
pub mod PassingRows
pub mod Passed
