-- Each outcome falls after the one before it.
use Rattle.executions.proofs.observation_determinism.OneOutcome.{one_falls}
use Rattle.executions.proofs.observation_determinism.laws.law_one_outcome_a_record.Goals as goal

pub returns : goal.returns
returns c = one_falls
