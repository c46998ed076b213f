pub mod Texts
pub mod Lengths
pub mod picture
