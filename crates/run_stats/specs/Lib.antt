pub mod Errors
pub mod Runs
pub mod Output
pub mod Tally
pub mod Made
pub mod Asked
