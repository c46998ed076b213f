-- no such access was found so far
use Rattle.oracle_soundness.specs.oracle_races.Searched.{Holds}
use Rattle.oracle_soundness.specs.oracle_races.Shown.{SomeAt}
use Rattle.oracle_soundness.proofs.oracle_races.Searches.{AllBefore, BeginsNone}
use Rattle.oracle_soundness.proofs.oracle_races.facts.has_two.Given as goal

-- none of those that began at the first site is so with one at the second
abbrev pub invariant-loop-moment : goal.invariant-loop-moment
invariant-loop-moment l =
    AllBefore (BeginsNone l.pair.first (λ a. SomeAt l.pair.second (Holds l.fact l.history a))) l.history l.moment-index
