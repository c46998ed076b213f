pub mod CheckLemmas
pub mod FilesLemmas
mod ListLemmas
mod TogetherLemmas
