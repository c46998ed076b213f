pub mod Counted
pub mod Known
pub mod Lines
pub mod Bags
pub mod FirstFailingLine
pub mod Naming
pub mod OneAnswer
pub mod Rows
