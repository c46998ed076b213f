pub mod AddsLemmas
pub mod TextLemmas
pub mod ProgramLemmas
pub mod ErrorLemmas
