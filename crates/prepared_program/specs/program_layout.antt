pub mod Places
pub mod Lays
pub mod Cells
pub mod Aligned
