pub mod Runs
pub mod Kept
pub mod Unlogged
pub mod Leads
pub mod Copies
pub mod Steps
pub mod Turns
pub mod Readers
