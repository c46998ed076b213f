-- By how many of its steps are no failed tries.
use Rattle.executions.proofs.step_bounds.Lists.{few_of_all, few_of_list}
use Rattle.executions.proofs.step_bounds.Tasks.{few_of_task}
use Rattle.executions.proofs.step_bounds.laws.law_few_steps_are_made.Goals as goal

pub returns-clause-task : goal.returns-clause-task
returns-clause-task c = few_of_task

pub returns-clause-list : goal.returns-clause-list
returns-clause-list c = few_of_list

pub returns-clause-all : goal.returns-clause-all
returns-clause-all c = λ run records keeps turns list. few_of_all run records keeps list turns
