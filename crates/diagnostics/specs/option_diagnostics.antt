pub mod Item
pub mod Places
pub mod Schedules
pub mod Misfits
