pub mod Scopes
pub mod Passes
