-- the search ends at such an access, or finds none
use Rattle.oracle_soundness.specs.oracle_races.Searched.{Holds}
use Rattle.oracle_soundness.proofs.oracle_races.Searches.{none_at, have_begun}
use Rattle.oracle_soundness.proofs.oracle_races.facts.has_second.Goals as goal

pub returns : goal.returns
returns c = (
  (λ no. cc),
  (λ some. absurd (none_at c.args.history.now c.args.at (Holds c.args.fact c.args.history.now c.args.a.now)
      c.loop-moment.moment-index c.loop-moment-test.false c.loop-moment.invariant
      (λ b so. (have_begun c.args.history.now c.args.a.now b c.args.fact so).1) some)),
)
