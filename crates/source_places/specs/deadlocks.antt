pub mod Waits
pub mod Asked
pub mod Lines
pub mod Explained
