pub mod Shown
pub mod Pieces
