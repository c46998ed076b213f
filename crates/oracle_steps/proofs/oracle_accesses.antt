pub mod ReadingLemmas
pub mod TextLemmas
