-- By what a log keeps and the list's own words for it.
use Rattle.std.proofs.Common.{length, reverse, subst, sym}
use Rattle.litmus_step.proofs.ReaderLemmas.{body_keeps, noted_along}
use Rattle.litmus_step.proofs.laws.law_logs_give_what_the_list_has.Goals as goal
use Rattle.litmus_step.specs.Kept.{accesses_kept, watches_kept}
use Rattle.executions.specs.execution.Run.{task_of, task_setting}
use Rattle.log_correctness.specs.Lists.{AreAccessesOf, AreArmsOf, AreTakesOf}
use Rattle.slot_table.specs.Records.{records_of}

pub returns-clause-accesses : goal.returns-clause-accesses
returns-clause-accesses c = λ run records list task log given limits kept gives.
    let few = c.law_few_accesses_are_noted.ensures.text (task_setting run task) (length (task_of run task).registers) (task_of run task).body
    (reverse (records_of task records)) kept.noted (list.tasks task) (noted_along run records list task kept.noted kept.notes) in
    subst (AreAccessesOf list task) (sym (gives (accesses_kept run task) (watches_kept run task) kept.noted kept.keeps few))
    (c.law_a_log_keeps_just_the_accesses.ensures run records list task kept.noted limits kept.notes)

pub returns-clause-arms : goal.returns-clause-arms
returns-clause-arms c = λ run records list task log given limits kept gives.
    let few = c.law_few_watches_are_over.ensures.arms (task_setting run task) (length (task_of run task).registers) (task_of run task).body
    (reverse (records_of task records)) kept.noted (body_keeps run task limits) (list.tasks task)
    (noted_along run records list task kept.noted kept.notes) in
    subst (AreArmsOf list task) (sym (gives (accesses_kept run task) (watches_kept run task) kept.noted kept.keeps few))
    (c.law_a_log_keeps_just_the_arms.ensures run records list task kept.noted kept.notes)

pub returns-clause-takes : goal.returns-clause-takes
returns-clause-takes c = λ run records list task log given limits kept gives.
    let few = c.law_few_watches_are_over.ensures.takes (task_setting run task) (length (task_of run task).registers) (task_of run task).body
    (reverse (records_of task records)) kept.noted (body_keeps run task limits) (list.tasks task)
    (noted_along run records list task kept.noted kept.notes) in
    subst (AreTakesOf list task) (sym (gives (accesses_kept run task) (watches_kept run task) kept.noted kept.keeps few))
    (c.law_a_log_keeps_just_the_takes.ensures run records list task kept.noted kept.notes)
