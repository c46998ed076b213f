pub mod Pictures
pub mod Results
pub mod Told
