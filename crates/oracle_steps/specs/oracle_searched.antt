pub mod KeptSteps
pub mod Places
pub mod Points
pub mod Lists
