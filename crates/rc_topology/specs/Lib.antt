pub mod Topology
pub mod Ports
pub mod Order
pub mod Links
pub mod Filling
pub mod Left
pub mod Rows
pub mod CutRows
