pub mod Told
pub mod Reads
pub mod Joined
pub mod Ends
