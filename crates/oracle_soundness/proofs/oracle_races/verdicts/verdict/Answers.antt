-- A race that is not reported is missed, for its reasons.
use Rattle.std.proofs.Common.{◌≡◌, ◌∙◌, false, sym, true}
use Rattle.oracle_soundness.proofs.oracle_races.verdicts.verdict.Goals as goal

pub returns-then-branch-clause-fits : goal.returns-then-branch-clause-fits
returns-then-branch-clause-fits c = (
  λ reported. let bad : false ≡ true = sym c.if-some_happens.false ∙ c.some_happens.ensures.1 reported in cc,
  c.in_ok-is_race.ensures.0 c.if-branch.true,
  c.missed_why.ensures c.args.atomic,
)
