-- Each arming that is over has its verdict, and each taking its telling.
use Rattle.std.proofs.Common.{◌≡◌, ◌∙◌, ◌+◌, ◌++◌, ℕ, [], List, arith, length, reverse, subst, sym}
use Rattle.std.proofs.lemmas.List.{length-append, length-reverse}
use Rattle.litmus_syntax.specs.Tree.{Block}
use Rattle.log_correctness.proofs.Fallen.{few_fell, few_reported_in, so_many_arms, so_many_takes}
use Rattle.log_correctness.proofs.Watches.{count_reverse, few_removes, few_tells, is_remove, is_tell}
use Rattle.executions.proofs.execution.CheckFacts.{back}
use Rattle.log_correctness.proofs.Naming.{back_is}
use Rattle.log_correctness.proofs.Sums.{counted_both, of_record, steps_noted}
use Rattle.soundness.proofs.Texts.{whole_falls}
use Rattle.slot_table.specs.Discipline.{Discipline}
use Rattle.slot_table.specs.declared.records.Record.{Record}
use Rattle.program_order.specs.Standing.{Setting}
use Rattle.program_order.specs.WrittenOrder.{SpellsAll, WrittenOrder}
use Rattle.std.proofs.lemmas.List.{append-nil}
use Rattle.log_correctness.proofs.bounds.law_few_watches_are_over.Goals as goal

-- a text's records from the first on
kept_whole : (task : ℕ) (records : List Record) → Discipline task (reverse records) → Discipline task (back records [])
kept_whole task records keeps = subst (λ (r : List Record). Discipline task r) (sym (back_is records [] ∙ append-nil (reverse records))) keeps

spelled : (s : Setting) (registers : ℕ) (body : Block) (records : List Record) → SpellsAll s registers body records → WrittenOrder s registers body records
spelled s registers body records whole =
    record { more = []; whole = subst (λ (r : List Record). SpellsAll s registers body r) (sym (append-nil records)) whole }

pub returns-clause-arms : goal.returns-clause-arms
returns-clause-arms c = λ s registers body records noted fits written are.
    let all : List Record = records ++ written.more in
    let most = c.law_few_outcomes_fall.ensures.text s registers body all fits written.whole in
    let keeps = kept_whole s.text.task all
    (c.law_the_written_order_keeps_the_discipline.ensures.keeps s registers body all (spelled s registers body all written.whole)) in
    let few = few_removes s.text.task all written.whole.end.outcomes (whole_falls s registers body all written.whole) keeps in
    let parts = counted_both (of_record is_remove) records written.more in
    let own = count_reverse is_remove records in
    let same = steps_noted is_remove written (reverse records) noted are in
    let size = so_many_arms noted in omega (arith, most, few, parts, own, same, size)

pub returns-clause-takes : goal.returns-clause-takes
returns-clause-takes c = λ s registers body records noted fits written are.
    let all : List Record = records ++ written.more in
    let most = c.law_few_outcomes_fall.ensures.text s registers body all fits written.whole in
    let few = few_tells all written.whole.end.outcomes (whole_falls s registers body all written.whole) in
    let parts = counted_both (of_record is_tell) records written.more in
    let own = count_reverse is_tell records in
    let same = steps_noted is_tell written (reverse records) noted are in
    let size = so_many_takes noted in omega (arith, most, few, parts, own, same, size)

pub returns-clause-reports : goal.returns-clause-reports
returns-clause-reports c = λ s registers body records noted fits written are.
    let all : List Record = records ++ written.more in
    let most = c.law_few_outcomes_fall.ensures.text s registers body all fits written.whole in
    let size : length all ≡ length records + length written.more = length-append records written.more in
    let turned : length (reverse records) ≡ length records = length-reverse records in
    let few = few_fell written (length (reverse records)) (omega (arith, size, turned)) in
    let reports = few_reported_in written (reverse records) noted are in omega (arith, most, few, reports)
