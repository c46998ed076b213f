-- By the records of the task.
use Rattle.std.proofs.Common.{ℕ, List, arith, reverse, subst, sym}
use Rattle.std.proofs.lemmas.List.{reverse-reverse}
use Rattle.log_correctness.proofs.Lists.{keeps_body}
use Rattle.executions.specs.execution.Run.{Run}
use Rattle.executions.specs.execution.Execution.{Execution}
use Rattle.log_correctness.specs.Noted.{AreNoted, Notes}
use Rattle.slot_table.specs.Records.{records_of}
use Rattle.slot_table.specs.declared.records.Record.{Record}
use Rattle.task_log.specs.declared.noted.Noted.{Noted}
use Rattle.log_correctness.proofs.bounds.law_few_watches_of_each_task_are_over.Goals as goal

turned : (run : Run) (records : List Record) (list : Execution run records) (task : ℕ) (noted : List Noted) → Notes list task noted
    → AreNoted (list.tasks task) (reverse (reverse (records_of task records))) noted
turned run records list task noted notes =
    subst (λ (r : List Record). AreNoted (list.tasks task) r noted) (sym (reverse-reverse (records_of task records))) notes

pub returns-clause-arms : goal.returns-clause-arms
returns-clause-arms c = λ run records list task noted keeps there notes.
    let fits = keeps_body run keeps task there in
    let repeats = fits.repeats in
    let few = c.law_few_watches_are_over.ensures.arms _ _ _ _ noted fits (list.tasks task) (turned run records list task noted notes) in omega (arith, few, repeats)

pub returns-clause-takes : goal.returns-clause-takes
returns-clause-takes c = λ run records list task noted keeps there notes.
    let fits = keeps_body run keeps task there in
    let repeats = fits.repeats in
    let few = c.law_few_watches_are_over.ensures.takes _ _ _ _ noted fits (list.tasks task) (turned run records list task noted notes) in omega (arith, few, repeats)
