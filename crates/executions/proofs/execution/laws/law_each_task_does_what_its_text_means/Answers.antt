-- What of the history is a task's is what it did by its records.
use Rattle.executions.proofs.execution.Histories.{each_begins}
use Rattle.executions.proofs.execution.laws.law_each_task_does_what_its_text_means.Goals as goal

pub returns : goal.returns
returns c = each_begins
