pub mod Layout
pub mod Word
pub mod Match
