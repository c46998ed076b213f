pub mod execution
pub mod observation_determinism
pub mod timestamp_irrelevance
