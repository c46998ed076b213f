-- the search for the begin ends at it, or finds none
use Rattle.std.proofs.Common.{below_more, refl, arith}
use Rattle.oracle_soundness.proofs.oracle_definitions.Searches.{is_silenced, not_silenced}
use Rattle.oracle_soundness.proofs.oracle_definitions.marked.silenced.Goals as goal

pub loop-k-preserved : goal.loop-k-preserved
loop-k-preserved c =
    below_more _ _ c.loop-k.invariant (λ here. cc (c.in_ok-is_silenced_at.ensures.1 here))

pub returns-then-branch : goal.returns-then-branch
returns-then-branch c = (
  (λ yes. is_silenced _ _ _ (c.in_ok-is_silenced_at.ensures.0 c.if-branch.true)),
  (λ silenced. refl),
)

pub returns : goal.returns
returns c = (
  (λ no. cc),
  (λ silenced. absurd
      (not_silenced _ _ (λ k within. c.loop-k.invariant k (omega arith)) silenced)),
)
