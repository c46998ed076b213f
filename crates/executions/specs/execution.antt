pub mod Run
pub mod Ended
pub mod Execution
pub mod Observed
pub mod Reports
pub mod Answers
pub mod TwoSides
