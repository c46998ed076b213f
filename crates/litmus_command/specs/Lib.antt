pub mod Engine
pub mod Replay
pub mod Show
pub mod Overwrite
pub mod Command
pub mod Ends
