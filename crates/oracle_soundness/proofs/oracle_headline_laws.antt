pub mod Counted
pub mod Decided
pub mod Endings
