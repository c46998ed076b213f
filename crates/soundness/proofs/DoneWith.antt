-- What a task does with the latest of its records, by its own records alone.
use Rattle.std.proofs.Common.{◌≡◌, ◌+◌, ◌∙◌, ◌∷◌, ◌++◌, [], ℕ, suc, List, ap, append_assoc, arith, drop, length, refl, subst, sym}
use Rattle.std.proofs.lemmas.List.{length-append}
use Rattle.access_types.specs.declared.history.Happening.{Happening}
use Rattle.litmus_syntax.specs.Tree.{Block}
use Rattle.soundness.proofs.RecordsDoEvents.{done_with}
use Rattle.executions.proofs.execution.AccessesBeginOnce.{begin_once}
use Rattle.soundness.proofs.TextTells.{whole_tells}
use Rattle.soundness.specs.Events.{DoesEvent, IsEvent}
use Rattle.slot_table.specs.declared.records.Record.{Record}
use Rattle.program_order.specs.Standing.{Point, Setting, point_by}
use Rattle.program_order.specs.TaskObserved.{did_by, did_next, to_come}
use Rattle.program_order.specs.WrittenOrder.{WrittenOrder, first_point}

drop_front : (first rest : List Happening) → drop (length first) (first ++ rest) ≡ rest
drop_front [] rest = refl
drop_front (one ∷ first) rest = drop_front first rest

-- one event at most, and marks
pub does_last : (s : Setting) (registers : ℕ) (body : Block) (own : List Record) (latest : Record)
    (written : WrittenOrder s registers body (own ++ latest ∷ []))
    → DoesEvent s (did_by written (length own)) latest.step latest.answer (did_next written (length own))
does_last s registers body own latest written =
    let made : ℕ = length own in
    let whole : List Record = (own ++ latest ∷ []) ++ written.more in
    let split : whole ≡ own ++ latest ∷ written.more = append_assoc own (latest ∷ []) written.more in
    let first : Point = first_point (to_come written 0) registers in
    let told = whole_tells s registers body whole written.whole (begin_once s registers body whole written.whole) in
    let it = done_with s first whole [] written.whole.end.way written.whole.end.outcomes refl told own latest written.more split in
    let long : length whole ≡ length own + suc (length written.more) =
    ap (λ (r : List Record). length r) split ∙ length-append own (latest ∷ written.more) in
    let left : to_come written (made + 1) ≡ length written.more = omega (arith, long) in
    let with_it : to_come written made ≡ suc (length written.more) = omega (arith, long) in
    let by_now : did_by written (made + 1) ≡ did_by written made ++ (it.event ++ it.marks) =
    ap (λ (n : ℕ). (point_by n first written.whole.end.way).progress.did) left
    ∙ (it.all ∙ ap (λ (n : ℕ). (point_by n first written.whole.end.way).progress.did ++ (it.event ++ it.marks)) (sym with_it)) in
    record {
      event = it.event;
      marks = it.marks;
      all = ap (λ (d : List Happening). drop (length (did_by written made)) d) by_now ∙ drop_front (did_by written made) (it.event ++ it.marks);
      is_event = subst (λ (n : ℕ). IsEvent s (point_by n first written.whole.end.way).progress.did latest.step latest.answer it.event)
          (sym with_it) it.is_event;
      are_marks = it.are;
    }
