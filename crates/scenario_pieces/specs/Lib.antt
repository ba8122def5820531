pub mod Piece
pub mod Stands
