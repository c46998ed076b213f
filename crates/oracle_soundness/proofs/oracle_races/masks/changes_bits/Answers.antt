-- the search ends at a change, or finds none
use Rattle.std.proofs.Common.{arith, below_more, refl}
use Rattle.std.proofs.lemmas.Option.{slice_get_within}
use Rattle.oracle_soundness.proofs.oracle_races.masks.changes_bits.Goals as goal

pub loop-place-preserved : goal.loop-place-preserved
loop-place-preserved c = below_more _ _ c.loop-place.invariant (λ here. cc (c.changes_bits_at.ensures.1 here))

pub returns-then-changes_bits_at : goal.returns-then-changes_bits_at
returns-then-changes_bits_at c =
    let here = c.changes_bits_at.ensures.0 c.if-changes_bits_at.true in (
      (λ yes. record {
        own = here.writes.own;
        place = c.loop-place.place;
        value = here.writes.value;
        assertion_goes = here.assertion_goes;
        other_goes = here.writes.goes;
        writes = here.writes.writes;
        differ = here.differ;
      }),
      (λ changes. refl),
    )

pub returns : goal.returns
returns c = (
  (λ no. cc),
  (λ found. absurd (c.loop-place.invariant found.place
      (omega (arith, slice_get_within c.args.history.now found.place _ found.writes)) (record {
        writes = record { own = found.own; goes = found.other_goes; value = found.value; writes = found.writes };
        assertion_goes = found.assertion_goes;
        differ = found.differ;
      }))),
)
