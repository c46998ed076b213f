-- By what each statement counts.
use Rattle.task_plan.proofs.task_laws.Begins.{begins_grow}
use Rattle.task_plan.proofs.task_laws.laws.law_accesses_begin_within_the_text.Goals as goal

pub returns : goal.returns
returns c = begins_grow
