pub mod Cells
pub mod Lines
pub mod Rows
pub mod Watches
pub mod Text
