-- All of the operation is left.
use Rattle.std.proofs.Common.{refl}
use Rattle.access_run.proofs.memory_operation.LeadsLemmas.{leads_first}
use Rattle.access_run.proofs.memory_operation.run.OperationRun.new.Goals as goal

pub returns : goal.returns
returns c = λ task. leads_first task c.args.access.now c.args.source c.args.operation _ refl refl c.nothing.ensures refl
