mod NumberLemmas
mod SpellingLemmas
