-- no such two were found so far
use Rattle.oracle_soundness.specs.oracle_races.Searched.{Holds}
use Rattle.oracle_soundness.specs.oracle_races.Shown.{HasTwo}
use Rattle.oracle_soundness.proofs.oracle_races.Searches.{AllBefore}
use Rattle.oracle_soundness.proofs.oracle_races.facts.some_two.Given as goal

-- none of the executions passed has two
abbrev pub invariant-loop-told : goal.invariant-loop-told
invariant-loop-told l =
    AllBefore (λ told. ¬ HasTwo l.pair (Holds l.fact told.history.items)) l.executions l.told-index
