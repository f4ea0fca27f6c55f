pub mod Pieces
pub mod Finding
pub mod Editing
pub mod Knowing
pub mod PieceRows
