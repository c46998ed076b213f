-- No more accesses are noted of a task than it began.
use Rattle.std.proofs.Common.{◌≡◌, ◌∙◌, ◌≤◌, ◌+◌, ◌++◌, ◌∷◌, [], ℕ, suc, Bool, true, false, List, None, Option, Some, ap, arith, cond, length, refl, sym}
use Rattle.std.specs.List.{list_any}
use Rattle.std.specs.Option.{option_to_list}
use Rattle.std.proofs.lemmas.List.{length-append}
use Rattle.access_types.specs.Access.{Access}
use Rattle.access_types.specs.declared.history.Happening.{Happening}
use Rattle.access_types.specs.declared.history.Happening.TheVariants as happenings
use Rattle.litmus_syntax.specs.Tree.{Block}
use Rattle.executions.proofs.execution.Histories.{did_then}
use Rattle.log_correctness.specs.Noted.{AreNoted, IsBegun, begun_in}
use Rattle.log_correctness.proofs.Sums.{counted, counted_both}
use Rattle.setup_access.specs.declared.begun.Begun.{Begun}
use Rattle.slot_table.specs.declared.records.Record.{Record}
use Rattle.slot_table.specs.declared.step.Answer.{Answer}
use Rattle.slot_table.specs.declared.step.Answer.TheVariants as answers
use Rattle.slot_table.specs.declared.step.Step.{Step}
use Rattle.slot_table.specs.declared.step.Step.TheVariants as steps
use Rattle.task_log.specs.Touches.{end_newest, goes_on, touches_at, touches_of}
use Rattle.task_log.specs.declared.noted.Noted.{Noted}
use Rattle.task_log.specs.declared.touches.Touch.{Touch}
use Rattle.program_order.specs.Standing.{Setting}
use Rattle.program_order.specs.TaskObserved.{did_by, did_next}
use Rattle.program_order.specs.WrittenOrder.{WrittenOrder}
use Rattle.executions.specs.observation_determinism.Begins.{begins_in, is_begin}

same_length : (stamp : ℕ) (touches : List Touch) → length (end_newest stamp touches) ≡ length touches
same_length stamp [] = refl
same_length stamp (touch ∷ newer) =
    elim (list_any goes_on newer) as (λ b. length (cond b (touch ∷ end_newest stamp newer)
    (cond (goes_on touch) (record touch { end = Some stamp }) touch ∷ newer)) ≡ suc (length newer)) [
      | true ↦ ap suc (same_length stamp newer)
      | false ↦ refl
    ]

begun_count : (happening : Happening) (later : List Happening) → length (begun_in later) ≡ begins_in later
    → length (begun_in (happening ∷ later)) ≡ cond (is_begin happening) 1 0 + begins_in later
begun_count (happenings.Begin a) later so = omega (arith, so)
begun_count (happenings.End a) later so = omega (arith, so)
begun_count (happenings.Read bytes value) later so = omega (arith, so)
begun_count (happenings.Write bytes value) later so = omega (arith, so)
begun_count (happenings.Lock lock) later so = omega (arith, so)
begun_count (happenings.Unlock lock) later so = omega (arith, so)
begun_count (happenings.Mark mark) later so = omega (arith, so)

so_many_begun : (did : List Happening) → length (begun_in did) ≡ begins_in did
so_many_begun [] = refl
so_many_begun (happening ∷ later) = begun_count happening later (so_many_begun later) ∙ sym (counted is_begin happening later)

-- a touch more where an access begins
module _ (before : List Touch) where
  abbrev few : Step → Answer → Option Begun → Type 0
  few step answer begins = length (touches_at step answer begins before) ≤ length before + length (option_to_list begins)

  clocked : (answer : Answer) (begins : Option Begun) → few steps.Clock answer begins
  clocked (answers.Word stamp) (Some begun) =
      let all = length-append before (record { begun = begun; begin = stamp; end = None } ∷ []) in omega (arith, all)
  clocked (answers.Word stamp) None = let same = same_length stamp before in omega (arith, same)
  clocked (answers.Flag flag) begins = omega arith
  clocked (answers.Halves setter finder) begins = omega arith
  clocked answers.Done begins = omega arith

  pub one_at_most : (step : Step) (answer : Answer) (begins : Option Begun) → few step answer begins
  one_at_most steps.Clock answer begins = clocked answer begins
  one_at_most (steps.Load index) answer begins = omega arith
  one_at_most (steps.Insert index word) answer begins = omega arith
  one_at_most (steps.TryConsume index word) answer begins = omega arith
  one_at_most (steps.Consume index) answer begins = omega arith
  one_at_most (steps.Remove index) answer begins = omega arith
  one_at_most (steps.PairLoad index) answer begins = omega arith
  one_at_most (steps.Name index ticket) answer begins = omega arith
  one_at_most (steps.Tell index ticket) answer begins = omega arith
  one_at_most (steps.Clear index) answer begins = omega arith
  one_at_most (steps.CellLoad cell) answer begins = omega arith
  one_at_most (steps.CellExchange cell expected new) answer begins = omega arith
  one_at_most (steps.LockTry lock holder) answer begins = omega arith
  one_at_most (steps.LockStore lock) answer begins = omega arith

noted_begun : (plain : Bool) (task : ℕ) (before next : List Happening) (begins : Option Begun) → IsBegun plain task before next begins
    → length (option_to_list begins) ≡ begins_in next
noted_begun plain task before next None is = ap (λ (l : List Access). length l) (sym is) ∙ so_many_begun next
noted_begun plain task before next (Some begun) is = ap (λ (l : List Access). length l) (sym is.0) ∙ so_many_begun next

pub few_noted : {s : Setting} {registers : ℕ} {body : Block} {records : List Record} (written : WrittenOrder s registers body records) (own : List Record)
    (noted : List Noted) → AreNoted written own noted → length (touches_of noted) ≤ begins_in (did_by written (length own))
few_noted written [] [] are = omega arith
few_noted written [] (noted ∷ before) are = absurd are
few_noted written (latest ∷ earlier) [] are = absurd are
few_noted {s = s} written (latest ∷ earlier) (noted ∷ before) are =
    let made : ℕ = length earlier in
    let rest : length (touches_of before) ≤ begins_in (did_by written made) = few_noted written earlier before are.0 in
    let more : length (touches_of (noted ∷ before)) ≤ length (touches_of before) + length (option_to_list noted.begins) =
    one_at_most (touches_of before) noted.step noted.answer noted.begins in
    let its : length (option_to_list noted.begins) ≡ begins_in (did_next written made) =
    noted_begun s.rules.plain_writes_atomic s.text.task (did_by written made) (did_next written made) noted.begins are.1.begins in
    let sum : begins_in (did_by written made ++ did_next written made) ≡ begins_in (did_by written made) + begins_in (did_next written made) =
    counted_both is_begin (did_by written made) (did_next written made) in
    let next : begins_in (did_by written made ++ did_next written made) ≡ begins_in (did_by written (made + 1)) =
    ap (λ (d : List Happening). begins_in d) (did_then written made) in
    let now : begins_in (did_by written (made + 1)) ≡ begins_in (did_by written (suc made)) =
    ap (λ (n : ℕ). begins_in (did_by written n)) (let same : made + 1 ≡ suc made = omega arith in same) in
    omega (arith, rest, more, its, sum, next, now)
