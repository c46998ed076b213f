pub mod Asking
mod SpellingLemmas
