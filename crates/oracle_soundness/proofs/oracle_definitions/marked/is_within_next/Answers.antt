-- the search for the last next-mark ends at it, or finds none
use Rattle.std.proofs.Common.{below_more, refl, arith}
use Rattle.oracle_soundness.proofs.oracle_definitions.Searches.{is_within_next, not_within_next}
use Rattle.oracle_soundness.proofs.oracle_definitions.Splits.{rest_of}
use Rattle.oracle_soundness.proofs.oracle_definitions.marked.is_within_next.Goals as goal

pub returns-then-branch : goal.returns-then-branch
returns-then-branch c = (
  (λ yes. is_within_next c.args.atomic c.args.task c.args.moments.now c.loop-from.from
      (rw rest_of at (c.in_ok-begins_last_next.ensures.0 c.if-branch.true))),
  (λ within. refl),
)

pub loop-from-preserved : goal.loop-from-preserved
loop-from-preserved c =
    below_more _ _ c.loop-from.invariant
    (λ here. cc (c.in_ok-begins_last_next.ensures.1 (rw rest_of here)))

pub returns : goal.returns
returns c = (
  (λ no. cc),
  (λ within_next. absurd
      (not_within_next _ _ _ (λ k within. c.loop-from.invariant k (omega arith)) within_next)),
)
