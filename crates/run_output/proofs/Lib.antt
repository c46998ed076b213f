pub mod FinalLemmas
pub mod CellValues
