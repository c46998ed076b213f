pub mod Standing
pub mod Access
pub mod WrittenOrder
pub mod Waits
pub mod TaskObserved
pub mod InProgress
pub mod text_bounds
