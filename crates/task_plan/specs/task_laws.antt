pub mod StandingButWay
pub mod Begins
pub mod Fits
pub mod SameStep
pub mod LeadsOn
