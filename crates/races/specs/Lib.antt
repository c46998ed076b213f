pub mod Found
pub mod Lists
pub mod Pairs
pub mod Placed
pub mod Reports
pub mod Shown
pub mod Verdicts
