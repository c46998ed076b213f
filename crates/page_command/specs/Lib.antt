pub mod Told
pub mod Looks
pub mod Ends
