pub mod Weights
pub mod Statements
pub mod Counts
pub mod Rises
pub mod Scopes
pub mod Passes
