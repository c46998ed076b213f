pub mod Restamped
pub mod Checks
pub mod Operations
pub mod Texts
pub mod Spelled
