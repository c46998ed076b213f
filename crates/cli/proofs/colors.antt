mod ColoredLemmas
mod EscapeLemmas
