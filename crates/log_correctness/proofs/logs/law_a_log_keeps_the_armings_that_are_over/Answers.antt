-- By the discipline: what a task has last set up and named is of the arming in its hand.
use Rattle.executions.specs.execution.Run.{first_cells, locks_of}
use Rattle.log_correctness.proofs.Numbering.{all_numbered}
use Rattle.log_correctness.proofs.Removals.{kept_arms}
use Rattle.log_correctness.proofs.logs.law_a_log_keeps_the_armings_that_are_over.Goals as goal

pub returns-clause-removed : goal.returns-clause-removed
returns-clause-removed c = λ run records list task noted notes.
    kept_arms run.rules.slots (locks_of run) (first_cells run) (list.tasks task) task records noted
    (c.law_executions_keep_the_discipline.ensures.keeps run records list) notes

pub returns-clause-numbers : goal.returns-clause-numbers
returns-clause-numbers c = λ noted earlier later arm is. all_numbered noted earlier arm later is
