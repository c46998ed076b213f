-- A machine that a list leads to doesn't stop, so it stands where its task's records tell.
use Rattle.std.proofs.Common.{length, reverse}
use Rattle.litmus_step.proofs.ReaderLemmas.{body_keeps, few_rises}
use Rattle.litmus_step.proofs.laws.law_machines_stand_where_the_list_does.Goals as goal
use Rattle.executions.specs.execution.Run.{task_of, task_setting}
use Rattle.slot_table.specs.Records.{records_of}

pub returns-clause-registers : goal.returns-clause-registers
returns-clause-registers c = λ run records list task machine limits leads.
    let keeps = body_keeps run task limits in
    c.law_machines_stand_where_the_records_tell.ensures.registers (task_setting run task) (length (task_of run task).registers)
    (task_of run task).body (reverse (records_of task records)) machine leads (list.tasks task)
    (c.law_no_task_stops.ensures (task_setting run task) (length (task_of run task).registers) (task_of run task).body
    (reverse (records_of task records)) machine leads (list.tasks task) keeps.scopes (few_rises run task limits))

pub returns-clause-unbalanced : goal.returns-clause-unbalanced
returns-clause-unbalanced c = λ run records list task machine limits leads.
    let keeps = body_keeps run task limits in
    c.law_machines_stand_where_the_records_tell.ensures.unbalanced (task_setting run task) (length (task_of run task).registers)
    (task_of run task).body (reverse (records_of task records)) machine leads (list.tasks task)
    (c.law_no_task_stops.ensures (task_setting run task) (length (task_of run task).registers) (task_of run task).body
    (reverse (records_of task records)) machine leads (list.tasks task) keeps.scopes (few_rises run task limits))

pub returns-clause-meant : goal.returns-clause-meant
returns-clause-meant c = λ run records list task ended.
    c.law_ended_tasks_stand_at_the_end.ensures.meant (task_setting run task) (length (task_of run task).registers)
    (task_of run task).body (reverse (records_of task records)) (list.tasks task) ended
