pub mod Sites
pub mod Errors
pub mod Accesses
pub mod Added
pub mod Settings
pub mod Prepared
