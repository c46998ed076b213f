pub mod Line
pub mod Setting
pub mod Config
