-- Only what is over has all of its records.
use Rattle.access_run.proofs.memory_operation.LeadsLemmas.{done_is_over}
use Rattle.access_run.proofs.memory_operation.run.OperationRun.is_over.Goals as goal

pub returns-in_default : goal.returns-in_default
returns-in_default c = λ task a source operation records leads. (
  λ h. absurd (cc),
  λ done. absurd (c.in_default.not-Over (done_is_over task a source operation records c.args.self.now leads done)),
)
