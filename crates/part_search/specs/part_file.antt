pub mod Reads
pub mod Texts
pub mod Values
pub mod Views
pub mod Wholes
