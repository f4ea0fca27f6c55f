pub mod Bounds
pub mod Collecting
pub mod Flows
pub mod Kept
pub mod Shares
