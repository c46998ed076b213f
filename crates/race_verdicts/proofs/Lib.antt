pub mod BareLemmas
pub mod IfOkLemmas
pub mod MissedLemmas
pub mod ShownLemmas
