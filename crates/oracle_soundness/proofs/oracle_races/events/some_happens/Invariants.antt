-- it happened in no execution so far
use Rattle.oracle_soundness.specs.oracle_races.Searched.{Happens}
use Rattle.oracle_soundness.proofs.oracle_races.Searches.{AllBefore}
use Rattle.oracle_soundness.proofs.oracle_races.events.some_happens.Given as goal

-- it happens in none of those passed
abbrev pub invariant-loop-told : goal.invariant-loop-told
invariant-loop-told l = AllBefore (λ told. ¬ Happens l.pair l.event told) l.executions l.told-index
