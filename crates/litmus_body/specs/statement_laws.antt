pub mod Reads
pub mod Spelled
