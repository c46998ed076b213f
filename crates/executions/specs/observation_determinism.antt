pub mod Begins
pub mod TellAlike
