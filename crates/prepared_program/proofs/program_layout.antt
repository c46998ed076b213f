pub mod PlaceLemmas
pub mod LayLemmas
pub mod CellLemmas
pub mod InCellLemmas
