-- the search ends at such an access, or finds none
use Rattle.oracle_soundness.specs.oracle_races.Searched.{Holds}
use Rattle.oracle_soundness.specs.oracle_races.Shown.{SomeAt}
use Rattle.oracle_soundness.proofs.oracle_races.Searches.{none_at, have_begun}
use Rattle.oracle_soundness.proofs.oracle_races.facts.has_two.Goals as goal

pub returns : goal.returns
returns c = (
  (λ no. cc),
  (λ some. absurd (none_at c.args.history.now c.args.pair.first
      (λ a. SomeAt c.args.pair.second (Holds c.args.fact c.args.history.now a))
      c.loop-moment.moment-index c.loop-moment-test.false c.loop-moment.invariant
      (λ a found. (have_begun c.args.history.now a found.access c.args.fact found.such).0) some)),
)
