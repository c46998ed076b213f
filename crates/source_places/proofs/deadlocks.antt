pub mod WordLemmas
pub mod AskedLemmas
pub mod WaitLemmas
pub mod LineLemmas
pub mod OutputLemmas
