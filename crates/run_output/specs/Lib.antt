pub mod Lines
pub mod Finals
pub mod Traces
pub mod Output
