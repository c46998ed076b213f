-- So it is by whatever facts.
use Rattle.oracle_soundness.specs.oracle_races.Shown.{facts_among}
use Rattle.oracle_soundness.proofs.oracle_races.Uniqueness.{one_fits}
use Rattle.oracle_soundness.proofs.oracle_races.verdicts.law_one_settled_verdict_fits.Goals as goal

pub returns : goal.returns
returns c = λ atomic executions pair one other. one_fits (facts_among atomic executions pair) one other
