-- What needs too much changes nothing.
use Rattle.task_run.proofs.BeginLemmas.{begins_stopped}
use Rattle.task_run.proofs.machine.Machine.begins.Goals as goal

pub returns-in-Err-clause-begins : goal.returns-in-Err-clause-begins
returns-in-Err-clause-begins c = λ s. rw c.in-Err.ensures.unchanged (begins_stopped s c.args.due c.args.self.now (c.in-Err.ensures.stops s))
