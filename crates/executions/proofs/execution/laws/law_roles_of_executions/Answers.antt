-- By the laws of the table.
use Rattle.executions.specs.execution.Run.{first_cells, locks_of}
use Rattle.executions.proofs.execution.laws.law_roles_of_executions.Goals as goal

pub returns-clause-table : goal.returns-clause-table
returns-clause-table c = λ run records list index.
    c.law_roles.ensures run.rules.slots (locks_of run) (first_cells run) records
    (c.law_executions_keep_the_discipline.ensures.keeps run records list) index

pub returns-clause-met : goal.returns-clause-met
returns-clause-met c = λ run records list.
    c.law_armings_are_met_once.ensures.once run.rules.slots (locks_of run) (first_cells run) records
    (c.law_executions_keep_the_discipline.ensures.keeps run records list)

pub returns-clause-taken_once : goal.returns-clause-taken_once
returns-clause-taken_once c = λ run records list.
    c.law_armings_are_met_once.ensures.taken run.rules.slots (locks_of run) (first_cells run) records
    (c.law_executions_keep_the_discipline.ensures.keeps run records list)

pub returns-clause-heard : goal.returns-clause-heard
returns-clause-heard c = λ run records list.
    c.law_each_hears_the_other.ensures.each run.rules.slots (locks_of run) (first_cells run) records
    (c.law_executions_keep_the_discipline.ensures.keeps run records list)

pub returns-clause-bags : goal.returns-clause-bags
returns-clause-bags c = λ run records list ended.
    c.law_heard_is_told.ensures.bag run.rules.slots (locks_of run) (first_cells run) records
    (c.law_executions_keep_the_discipline.ensures.keeps run records list)
    (c.law_executions_keep_the_discipline.ensures.finished run records ended)
