-- The part of the records that is the operation is one before whatever follows.
use Rattle.access_run.specs.memory_operation.Operations.{OperatesIn}
use Rattle.access_run.proofs.memory_operation.FrameLemmas.{operation_front}
use Rattle.access_run.proofs.memory_operation.Fronts.{framed}
use Rattle.access_run.proofs.memory_operation.laws.law_operations_are_framed.Goals as goal

pub returns : goal.returns
returns c = λ task a source operation effect.
    framed (λ records rest. OperatesIn task a source operation records effect rest) (operation_front task a source operation effect)
