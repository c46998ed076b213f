-- What came of it is what the records did.
use Rattle.access_run.proofs.memory_operation.LeadsLemmas.{did_so_far, whole}
use Rattle.access_run.proofs.memory_operation.run.OperationRun.effect.Goals as goal

pub returns-clause-so_far : goal.returns-clause-so_far
returns-clause-so_far c = λ task a source operation records leads.
    did_so_far task a source operation records c.args.self.now leads

pub returns-clause-complete : goal.returns-clause-complete
returns-clause-complete c = λ task a source operation records leads done.
    whole task a source operation records c.args.self.now leads done
