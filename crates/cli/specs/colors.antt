pub mod Colored
pub mod Escapes
