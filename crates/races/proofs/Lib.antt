mod AddsLemmas
mod PairLemmas
mod RunLemmas
mod SiteLemmas
mod VerdictLemmas
