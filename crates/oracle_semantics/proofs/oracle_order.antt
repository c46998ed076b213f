pub mod Work
pub mod OrderLemmas
