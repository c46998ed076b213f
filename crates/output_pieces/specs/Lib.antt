pub mod Objects
pub mod Spots
pub mod Texts
pub mod Values
pub mod Variables
