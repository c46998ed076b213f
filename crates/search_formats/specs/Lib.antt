pub mod Files
pub mod Herd
pub mod Pairs
pub mod Refusals
pub mod Rows
pub mod Several
