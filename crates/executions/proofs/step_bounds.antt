pub mod Firm
pub mod Checks
pub mod Texts
pub mod Tasks
pub mod Lists
