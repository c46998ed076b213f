pub mod ItemLemmas
pub mod PlaceLemmas
pub mod ScheduleLemmas
