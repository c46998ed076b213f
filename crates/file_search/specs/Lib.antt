pub mod Additions
pub mod Work
