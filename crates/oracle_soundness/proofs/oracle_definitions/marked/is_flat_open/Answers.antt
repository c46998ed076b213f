-- the search for the last flat mark ends at it, or finds none
use Rattle.std.proofs.Common.{below_more, refl, arith}
use Rattle.oracle_soundness.proofs.oracle_definitions.Searches.{is_flat_open, not_flat_open}
use Rattle.oracle_soundness.proofs.oracle_definitions.Splits.{rest_of}
use Rattle.oracle_soundness.proofs.oracle_definitions.marked.is_flat_open.Goals as goal

pub returns-then-begins_last_flat : goal.returns-then-begins_last_flat
returns-then-begins_last_flat c = (
  (λ yes. is_flat_open c.args.marks.now c.loop-from.from
      (rw rest_of at (c.begins_last_flat.ensures.0 c.if-begins_last_flat.true))),
  (λ is_open. refl),
)

pub loop-from-preserved : goal.loop-from-preserved
loop-from-preserved c =
    below_more _ _ c.loop-from.invariant
    (λ here. cc (c.begins_last_flat.ensures.1 (rw rest_of here)))

pub returns : goal.returns
returns c = (
  (λ no. cc),
  (λ is_open. absurd
      (not_flat_open _ (λ k within. c.loop-from.invariant k (omega arith)) is_open)),
)
