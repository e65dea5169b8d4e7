pub mod Pieces
pub mod Neighbours
pub mod Twins
