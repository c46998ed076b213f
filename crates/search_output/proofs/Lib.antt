pub mod TraceLemmas
pub mod ChosenLists
pub mod JoinedTraces
pub mod StateLemmas
pub mod EndLemmas
pub mod Results
pub mod ToldReports
