-- Nothing changes.
use Rattle.std.proofs.Common.{ap}
use Rattle.setup_access.specs.Lending.{with_context}
use Rattle.task_run.proofs.machine.Machine.disable_room.Goals as goal

pub returns-clause-unchanged : goal.returns-clause-unchanged
returns-clause-unchanged c = ap (λ x. record c.args.self.now { checker = with_context c.args.self.now.checker x }) c.context.ensures.value
