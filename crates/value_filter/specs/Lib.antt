pub mod Change
pub mod Verdict
