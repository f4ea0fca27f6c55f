pub mod NeighborLines
pub mod Peers
pub mod Redistributions
pub mod Lines
pub mod Rows
pub mod Reading
pub mod Examples
pub mod PeerRows
