pub mod Lists
pub mod Traces
pub mod Findings
pub mod Joined
pub mod StateFindings
pub mod Ends
pub mod Again
pub mod Texts
