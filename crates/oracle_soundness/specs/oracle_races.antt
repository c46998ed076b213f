pub mod Shown
pub mod Searched
