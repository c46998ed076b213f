pub mod Reading
pub mod Soundness
pub mod Tickets
pub mod Counting
pub mod Steps
pub mod Zips
pub mod Placed
pub mod Whole
