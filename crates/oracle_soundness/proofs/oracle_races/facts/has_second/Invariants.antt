-- no such access was found so far
use Rattle.oracle_soundness.specs.oracle_races.Searched.{Holds}
use Rattle.oracle_soundness.proofs.oracle_races.Searches.{AllBefore, BeginsNone}
use Rattle.oracle_soundness.proofs.oracle_races.facts.has_second.Given as goal

-- none of those that began at the site is so with the first one
abbrev pub invariant-loop-moment : goal.invariant-loop-moment
invariant-loop-moment l = AllBefore (BeginsNone l.at (Holds l.fact l.history l.a)) l.history l.moment-index
