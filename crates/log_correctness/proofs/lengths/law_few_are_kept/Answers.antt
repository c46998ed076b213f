-- Task by task.
use Rattle.std.proofs.Common.{◌≡◌, ◌∙◌, ◌++◌, ℕ, [], List, ap, arith, length, reverse, subst, sym}
use Rattle.std.proofs.lemmas.List.{append-nil, length-reverse}
use Rattle.litmus_syntax.specs.Tree.{Block}
use Rattle.log_correctness.proofs.Lists.{keeps_body}
use Rattle.log_correctness.proofs.Watches.{count_reverse, few_removes, few_tells, is_remove, is_tell}
use Rattle.log_correctness.proofs.FewKept.{by_tasks, few_ended, so_many_arms, so_many_takes}
use Rattle.executions.specs.execution.Run.{task_setting}
use Rattle.executions.specs.execution.Observed.{made_by}
use Rattle.executions.proofs.execution.CheckFacts.{back}
use Rattle.log_correctness.specs.Lists.{AreAccessesOf, AreArmsOf, AreTakesOf, takes_by}
use Rattle.log_correctness.proofs.Naming.{back_is}
use Rattle.log_correctness.proofs.Sums.{counted_both, of_record}
use Rattle.soundness.proofs.Texts.{whole_falls}
use Rattle.slot_table.specs.Discipline.{Discipline}
use Rattle.slot_table.specs.Records.{records_of}
use Rattle.slot_table.specs.declared.records.Record.{Record}
use Rattle.program_order.specs.Standing.{Point, Setting}
use Rattle.program_order.specs.TaskObserved.{did_by}
use Rattle.program_order.specs.WrittenOrder.{SpellsAll, WrittenOrder}
use Rattle.executions.specs.observation_determinism.Begins.{begins_in}
use Rattle.log_correctness.proofs.lengths.law_few_are_kept.Goals as goal

spelled : (s : Setting) (registers : ℕ) (body : Block) (records : List Record) → SpellsAll s registers body records → WrittenOrder s registers body records
spelled s registers body records whole =
    record { more = []; whole = subst (λ (r : List Record). SpellsAll s registers body r) (sym (append-nil records)) whole }

kept_whole : (task : ℕ) (records : List Record) → Discipline task (reverse records) → Discipline task (back records [])
kept_whole task records keeps = subst (λ (r : List Record). Discipline task r) (sym (back_is records [] ∙ append-nil (reverse records))) keeps

pub returns-clause-accesses : goal.returns-clause-accesses
returns-clause-accesses c = λ run records list accesses keeps are.
    by_tasks (AreAccessesOf list) 1024 (length run.program.tasks) (λ task there own own_are.
    let many = own_are.many in
    let ended = few_ended list task in
    let begun = c.law_few_accesses_begin.ensures.limits _ _ _ _ (list.tasks task) (keeps_body run keeps task there) in
    let now = c.law_one_telling.ensures.now _ _ _ _ (list.tasks task) in
    let same : begins_in (did_by (list.tasks task) (length (reverse (records_of task records)))) ≡ begins_in (did_by (list.tasks task) (made_by task records)) =
    ap (λ (n : ℕ). begins_in (did_by (list.tasks task) n)) (length-reverse (records_of task records)) in
    let stands = ap (λ (p : Point). begins_in p.progress.did) now in
    omega (arith, many, ended, begun, same, stands)) accesses are

pub returns-clause-arms : goal.returns-clause-arms
returns-clause-arms c = λ run records list arms keeps are.
    by_tasks (AreArmsOf list) 9216 (length run.program.tasks) (λ task there own own_are.
    let s : Setting = task_setting run task in
    let turned : List Record = reverse (records_of task records) in
    let all : List Record = turned ++ (list.tasks task).more in
    let most = c.law_few_outcomes_fall.ensures.limits _ _ _ _ (keeps_body run keeps task there) (list.tasks task).whole in
    let kept = kept_whole s.text.task all (c.law_the_written_order_keeps_the_discipline.ensures.keeps _ _ _ all (spelled _ _ _ all (list.tasks task).whole)) in
    let few = few_removes s.text.task all (list.tasks task).whole.end.outcomes (whole_falls _ _ _ all (list.tasks task).whole) kept in
    let parts = counted_both (of_record is_remove) turned (list.tasks task).more in
    let same = count_reverse is_remove (records_of task records) in
    let size = so_many_arms list task records own own_are in omega (arith, most, few, parts, same, size)) arms are

pub returns-clause-takes : goal.returns-clause-takes
returns-clause-takes c = λ run records list takes keeps are.
    by_tasks (AreTakesOf list) 9216 (length run.program.tasks) (λ task there own own_are.
    let turned : List Record = reverse (records_of task records) in
    let all : List Record = turned ++ (list.tasks task).more in
    let most = c.law_few_outcomes_fall.ensures.limits _ _ _ _ (keeps_body run keeps task there) (list.tasks task).whole in
    let few = few_tells all (list.tasks task).whole.end.outcomes (whole_falls _ _ _ all (list.tasks task).whole) in
    let parts = counted_both (of_record is_tell) turned (list.tasks task).more in
    let same = count_reverse is_tell (records_of task records) in
    let size = so_many_takes list task records in
    let its : length own ≡ length (takes_by task records) = ap (λ l. length l) own_are in omega (arith, most, few, parts, same, size, its)) takes are
