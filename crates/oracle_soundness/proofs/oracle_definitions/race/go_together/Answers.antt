-- the search for a common moment ends at it, or finds none
use Rattle.std.proofs.Common.{below_more, arith}
use Rattle.oracle_soundness.proofs.oracle_definitions.Together.{not_together}
use Rattle.oracle_soundness.proofs.oracle_definitions.race.go_together.Goals as goal

pub loop-k-preserved : goal.loop-k-preserved
loop-k-preserved c =
    below_more _ _ c.loop-k.invariant (λ both. cc (c.both_in_progress.ensures.1 both))

pub returns : goal.returns
returns c = (
  (λ no. cc),
  (λ both. absurd (not_together _ _ _ (λ k within. c.loop-k.invariant k (omega arith)) both)),
)
