pub mod Lines
pub mod Sites
pub mod Located
pub mod deadlocks
pub mod picture_source
