pub mod TreeLemmas
pub mod KeptLemmas
pub mod Shared
