mod MadeLemmas
mod NameLemmas
mod TallyLemmas
