pub mod Floats
pub mod Grown
