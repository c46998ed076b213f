pub mod MarkLists
pub mod Splits
pub mod Searches
pub mod Together
