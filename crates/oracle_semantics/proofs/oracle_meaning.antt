pub mod WalkLemmas
pub mod StepLemmas
pub mod Work
pub mod CountLemmas
pub mod TextLemmas
