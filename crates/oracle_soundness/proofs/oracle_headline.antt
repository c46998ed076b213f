pub mod EndedTakings
pub mod Pairs
pub mod Tellings
pub mod Sums
