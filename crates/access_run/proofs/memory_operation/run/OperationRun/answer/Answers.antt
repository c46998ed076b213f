-- One record more: what is left after it is what the stage has left after the answer.
use Rattle.std.proofs.Common.{refl}
use Rattle.access_run.proofs.memory_operation.LeadsLemmas.{leads_on}
use Rattle.access_run.proofs.memory_operation.run.OperationRun.answer.Goals as goal

pub returns : goal.returns
returns c = λ task a source operation records step leads says.
    leads_on task a source operation records c.args.self.now _ _ c.answer-turn.result step leads says
    (c.answer-turn.ensures task step says) refl refl c.and_then-self.ensures refl
