pub mod Deciding
pub mod LowBits
pub mod MaskLemmas
pub mod Reasons
pub mod Searches
pub mod Uniqueness
