pub mod Labels
pub mod Fit
pub mod Source
