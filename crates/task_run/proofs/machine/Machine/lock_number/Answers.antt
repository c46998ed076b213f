-- The number counts the locks of the program before it.
use Rattle.std.proofs.Common.{◌∙◌, ap, count_by, take}
use Rattle.task_run.proofs.machine.Machine.lock_number.Goals as goal
use Rattle.program_order.specs.Standing.{is_lock}

pub returns-clause-stands : goal.returns-clause-stands
returns-clause-stands c = λ s before stands. c.lock_number.ensures ∙ ap (λ vs. count_by (λ v. is_lock v.contents) (take c.args.variable vs)) stands.of.variables
