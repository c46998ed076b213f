-- The part is the last check of the newest scoped assertion in force.
use Rattle.task_run.proofs.BeginLemmas.{begins_closing}
use Rattle.task_run.proofs.StopLemmas.{closing_never}
use Rattle.task_run.proofs.machine.Machine.closes.Goals as goal
use Rattle.program_order.specs.Standing.{checks_of}

pub returns-clause-begins : goal.returns-clause-begins
returns-clause-begins c = λ s. begins_closing s c.args.self.now c.close_scoped.new.self c.if-self-eq0.false (c.close_scoped.ensures.closes (checks_of s)) c.close_scoped.ensures.context

pub returns-then-self-eq0-clause-stops : goal.returns-then-self-eq0-clause-stops
returns-then-self-eq0-clause-stops c = λ s. closing_never s c.args.self.now c.if-self-eq0.true
