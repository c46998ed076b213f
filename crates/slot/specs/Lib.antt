pub mod Line
pub mod Slot
pub mod Pair
