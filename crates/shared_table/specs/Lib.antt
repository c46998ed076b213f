pub mod Given
pub mod Row
pub mod Views
pub mod RunningWords
pub mod Plays
pub mod Seats
pub mod Touches
pub mod Ended
