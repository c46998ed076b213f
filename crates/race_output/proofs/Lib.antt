mod Floats
pub mod Free
mod Named
pub mod Sources
