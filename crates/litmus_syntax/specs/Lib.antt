pub mod Tree
pub mod Sites
pub mod Views
pub mod PrintedForm
pub mod Limits
pub mod Kept
