pub mod Armings
pub mod Arms
pub mod Counters
pub mod Keeps
pub mod Noted
pub mod Reports
pub mod Touches
