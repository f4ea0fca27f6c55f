pub mod Moves
pub mod Left
pub mod Walks
pub mod Examples
pub mod MoveRows
pub mod AccessListRows
