-- the search ends at a write, or finds none
use Rattle.std.proofs.Common.{arith, below_more}
use Rattle.std.proofs.lemmas.Option.{slice_get_within}
use Rattle.oracle_soundness.proofs.oracle_races.masks.writes.Goals as goal

pub loop-place-preserved : goal.loop-place-preserved
loop-place-preserved c = below_more _ _ c.loop-place.invariant (λ here. cc (c.writes_at.ensures.1 here))

pub returns : goal.returns
returns c = (
  (λ no. cc),
  (λ found. absurd (c.loop-place.invariant found.place
      (omega (arith, slice_get_within c.args.history.now found.place _ found.at.writes)) found.at)),
)
