pub mod Worked
pub mod Traces
pub mod VersionTwo
pub mod Turns
