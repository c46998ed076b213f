pub mod Bounds
pub mod Tables
pub mod Words
pub mod Version
pub mod colors
pub mod kernel_config
