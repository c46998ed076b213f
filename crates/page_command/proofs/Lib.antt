mod LookLemmas
mod PageLemmas
