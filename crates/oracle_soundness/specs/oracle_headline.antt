pub mod Tried
pub mod Kinds
