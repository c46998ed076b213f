pub mod Output
pub mod Diagnosis
