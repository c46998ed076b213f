pub mod Counts
pub mod Table
pub mod Armings
pub mod Accesses
pub mod Told
pub mod Story
pub mod Answer
pub mod trace_lines
