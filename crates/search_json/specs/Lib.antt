pub mod Extents
pub mod Json
pub mod Reports
