pub mod BlockLemmas
pub mod CountLemmas
pub mod NestingLemmas
pub mod RowLemmas
pub mod WordLemmas
