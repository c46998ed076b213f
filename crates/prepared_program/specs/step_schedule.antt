pub mod Entries
pub mod Order
pub mod Schedule
pub mod Spelling
