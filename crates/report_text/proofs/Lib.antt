pub mod SinkSteps
pub mod HexDigits
pub mod Written
pub mod Entries
pub mod TrueLines
pub mod Counts
