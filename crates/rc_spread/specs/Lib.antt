pub mod Gathered
pub mod Known
pub mod Kept
pub mod Onward
pub mod Turned
pub mod Alone
pub mod United
