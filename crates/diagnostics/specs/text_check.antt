pub mod Calls
pub mod Check
