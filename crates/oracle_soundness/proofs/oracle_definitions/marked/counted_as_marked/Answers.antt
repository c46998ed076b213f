-- the search for the begin ends at it, or finds none
use Rattle.std.proofs.Common.{below_more, refl, arith}
use Rattle.oracle_soundness.proofs.oracle_definitions.Searches.{is_counted, not_counted}
use Rattle.oracle_soundness.proofs.oracle_definitions.marked.counted_as_marked.Goals as goal

pub loop-k-preserved : goal.loop-k-preserved
loop-k-preserved c =
    below_more _ _ c.loop-k.invariant (λ here. cc (c.in_ok-counts_at.ensures.1 here))

pub returns-then-branch : goal.returns-then-branch
returns-then-branch c =
    ((λ yes. is_counted _ _ _ _ (c.in_ok-counts_at.ensures.0 c.if-branch.true)), (λ counted. refl))

pub returns : goal.returns
returns c = (
  (λ no. cc),
  (λ counted. absurd
      (not_counted _ _ _ (λ k within. c.loop-k.invariant k (omega arith)) counted)),
)
