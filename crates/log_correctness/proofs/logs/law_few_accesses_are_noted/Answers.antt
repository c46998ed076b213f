-- By what the task has begun.
use Rattle.std.proofs.Common.{◌≡◌, ◌∙◌, ◌≤◌, ℕ, List, ap, arith, length, reverse, sym}
use Rattle.std.proofs.lemmas.List.{length-reverse}
use Rattle.litmus_syntax.specs.Tree.{Block}
use Rattle.log_correctness.specs.Noted.{AreNoted}
use Rattle.log_correctness.proofs.Rooms.{few_noted}
use Rattle.slot_table.specs.declared.records.Record.{Record}
use Rattle.task_log.specs.Touches.{touches_of}
use Rattle.task_log.specs.declared.noted.Noted.{Noted}
use Rattle.program_order.specs.Standing.{Point, Setting}
use Rattle.program_order.specs.TaskObserved.{did_by, stands_by}
use Rattle.program_order.specs.WrittenOrder.{WrittenOrder, stands_after}
use Rattle.executions.specs.observation_determinism.Begins.{begins_in}
use Rattle.log_correctness.proofs.logs.law_few_accesses_are_noted.Goals as goal

within : (s : Setting) (registers : ℕ) (body : Block) (records : List Record) (noted : List Noted) (written : WrittenOrder s registers body records)
    → AreNoted written (reverse records) noted → stands_after written ≡ stands_by written (length records)
    → length (touches_of noted) ≤ begins_in (stands_after written).progress.did
within s registers body records noted written are now =
    let few : length (touches_of noted) ≤ begins_in (did_by written (length (reverse records))) = few_noted written (reverse records) noted are in
    let same : begins_in (did_by written (length (reverse records))) ≡ begins_in (stands_after written).progress.did =
    ap (λ (n : ℕ). begins_in (did_by written n)) (length-reverse records) ∙ ap (λ (p : Point). begins_in p.progress.did) (sym now) in
    omega (arith, few, same)

pub returns-clause-text : goal.returns-clause-text
returns-clause-text c = λ s registers body records noted written are.
    let few = within s registers body records noted written are (c.law_one_telling.ensures.now s registers body records written) in
    let most = c.law_few_accesses_begin.ensures.text s registers body records written in omega (arith, few, most)

pub returns-clause-limits : goal.returns-clause-limits
returns-clause-limits c = λ s registers body records noted written are keeps.
    let few = within s registers body records noted written are (c.law_one_telling.ensures.now s registers body records written) in
    let most = c.law_few_accesses_begin.ensures.limits s registers body records written keeps in omega (arith, few, most)
