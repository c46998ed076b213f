pub mod Access
pub mod Moved
pub mod Whole
pub mod Stamps
pub mod Leads
pub mod memory_operation
pub mod Changes
pub mod Loaded
