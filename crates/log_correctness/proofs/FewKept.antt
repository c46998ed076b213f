-- So much a task has of each thing, and so much all tasks.
use Rattle.std.proofs.Common.{◌≡◌, ◌∙◌, ◌<◌, ◌≤◌, ◌+◌, ◌*◌, ◌==◌, ◌++◌, ◌∷◌, if◌then◌else◌, [], inl, inr, ℕ, zero, suc}
use Rattle.std.proofs.Common.{Bool, true, false, List, MatchBool, None, Option, Some, ap, arith, cond, count_by, length, map, refl, reverse, subst}
use Rattle.std.proofs.lemmas.Bool.Decides.{eqb_tells}
use Rattle.std.proofs.lemmas.List.{append-nil, length-append, length-map}
use Rattle.std.proofs.Math.Nat.{suc-mul}
use Rattle.access_types.specs.Access.{Access}
use Rattle.access_types.specs.Arms.{Arm}
use Rattle.access_types.specs.Takes.{Take}
use Rattle.access_types.specs.declared.history.Happening.{Happening}
use Rattle.access_types.specs.declared.history.Happening.TheVariants as happenings
use Rattle.executions.specs.execution.Run.{Run, task_of, task_setting}
use Rattle.executions.specs.execution.Execution.{Execution}
use Rattle.executions.specs.execution.Observed.{made_by}
use Rattle.executions.proofs.execution.Histories.{did_of_all}
use Rattle.executions.proofs.execution.OwnLasts.{own_latest}
use Rattle.log_correctness.specs.Lists.{AreArmsAt, AreArmsBy, ByTask, take_of, takes_by}
use Rattle.log_correctness.specs.Spans.{is_end}
use Rattle.log_correctness.proofs.Balance.{Runs, runs_split, whole_runs}
use Rattle.log_correctness.proofs.Sums.{counted, of_record}
use Rattle.log_correctness.proofs.Watches.{is_remove, is_tell}
use Rattle.slot.specs.Pair.{Halves}
use Rattle.slot_table.specs.Armings.{last_arming_number}
use Rattle.slot_table.specs.Discipline.{heard}
use Rattle.slot_table.specs.Meetings.{Meeting, told_by, told_to}
use Rattle.slot_table.specs.Records.{records_of}
use Rattle.slot_table.specs.declared.records.Record.{Record}
use Rattle.slot_table.specs.declared.step.Answer.{Answer}
use Rattle.slot_table.specs.declared.step.Step.{Step}
use Rattle.slot_table.specs.declared.step.Step.TheVariants as steps
use Rattle.program_order.specs.TaskObserved.{did_by}
use Rattle.executions.specs.observation_determinism.Begins.{begins_in, is_begin}

-- no more end than begin, and go on before
ends_begin : (going : List Access) (did : List Happening) (after : List Access) → Runs going did after
    → count_by is_end did ≤ length going + begins_in did
ends_begin going [] after h = omega arith
ends_begin going (happenings.Begin a ∷ later) after h =
    let rest = ends_begin (a ∷ going) later after h in
    let one = counted is_end (happenings.Begin a) later in
    let other = counted is_begin (happenings.Begin a) later in omega (arith, rest, one, other)
ends_begin going (happenings.End a ∷ later) after h =
    let rest = ends_begin h.0 later after h.2 in
    let size : length going ≡ length (a ∷ h.0) = ap (λ (l : List Access). length l) h.1 in
    let one = counted is_end (happenings.End a) later in
    let other = counted is_begin (happenings.End a) later in omega (arith, rest, size, one, other)
ends_begin going (happenings.Read bytes value ∷ later) after h =
    let rest = ends_begin going later after h in
    let one = counted is_end (happenings.Read bytes value) later in
    let other = counted is_begin (happenings.Read bytes value) later in omega (arith, rest, one, other)
ends_begin going (happenings.Write bytes value ∷ later) after h =
    let rest = ends_begin going later after h in
    let one = counted is_end (happenings.Write bytes value) later in
    let other = counted is_begin (happenings.Write bytes value) later in omega (arith, rest, one, other)
ends_begin going (happenings.Lock lock ∷ later) after h =
    let rest = ends_begin going later after h in
    let one = counted is_end (happenings.Lock lock) later in
    let other = counted is_begin (happenings.Lock lock) later in omega (arith, rest, one, other)
ends_begin going (happenings.Unlock lock ∷ later) after h =
    let rest = ends_begin going later after h in
    let one = counted is_end (happenings.Unlock lock) later in
    let other = counted is_begin (happenings.Unlock lock) later in omega (arith, rest, one, other)
ends_begin going (happenings.Mark mark ∷ later) after h =
    let rest = ends_begin going later after h in
    let one = counted is_end (happenings.Mark mark) later in
    let other = counted is_begin (happenings.Mark mark) later in omega (arith, rest, one, other)

-- what each task has so much of, all tasks have so often
pub by_tasks : {X : Type 0} (Of : ℕ → List X → Type 0) (most : ℕ) (tasks : ℕ)
    → ((task : ℕ) → task < tasks → (own : List X) → Of task own → length own ≤ most)
    → (all : List X) → ByTask Of tasks all → length all ≤ tasks * most
by_tasks {X = X} Of most zero each all are = let none : length all ≡ 0 = ap (λ (l : List X). length l) are in omega (arith, none)
by_tasks {X = X} Of most (suc task) each all are =
    let rest = by_tasks Of most task (λ t less. each t (omega (arith, less))) are.0 are.3 in
    let own = each task (omega arith) are.1 are.4 in
    let size : length all ≡ length are.0 + length are.1 = ap (λ (l : List X). length l) are.2 ∙ length-append are.0 are.1 in
    let product : suc task * most ≡ task * most + most = suc-mul task most in omega (arith, rest, own, size, product)

module _ {run : Run} {all : List Record} (list : Execution run all) where
  -- an arming for each remove
  longer : (before after : List Arm) → after ≡ before → length after ≡ 0 + length before
  longer before after is = let same : length after ≡ length before = ap (λ (l : List Arm). length l) is in omega (arith, same)

  arms_at_step : (task : ℕ) (step : Step) (answer : Answer) (earlier : List Record) (before after : List Arm)
      → AreArmsAt list task step earlier before after
      → length after ≡ cond (is_remove step answer) 1 0 + length before
  arms_at_step task (steps.Remove index) answer earlier before after h =
      let size : length after ≡ length before + length (h.0 ∷ []) = ap (λ (l : List Arm). length l) h.2 ∙ length-append before (h.0 ∷ []) in omega (arith, size)
  arms_at_step task (steps.Load index) answer earlier before after h = longer before after h
  arms_at_step task (steps.Insert index word) answer earlier before after h = longer before after h
  arms_at_step task (steps.TryConsume index word) answer earlier before after h = longer before after h
  arms_at_step task (steps.Consume index) answer earlier before after h = longer before after h
  arms_at_step task (steps.PairLoad index) answer earlier before after h = longer before after h
  arms_at_step task (steps.Name index ticket) answer earlier before after h = longer before after h
  arms_at_step task (steps.Tell index ticket) answer earlier before after h = longer before after h
  arms_at_step task (steps.Clear index) answer earlier before after h = longer before after h
  arms_at_step task (steps.CellLoad cell) answer earlier before after h = longer before after h
  arms_at_step task (steps.CellExchange cell expected new) answer earlier before after h = longer before after h
  arms_at_step task (steps.LockTry lock holder) answer earlier before after h = longer before after h
  arms_at_step task (steps.LockStore lock) answer earlier before after h = longer before after h
  arms_at_step task steps.Clock answer earlier before after h = longer before after h

  pick : (b : Bool) (Yes No Goal : Type 0) → MatchBool b Yes No → b ≡ true → (Yes → Goal) → Goal
  pick true Yes No Goal h is on = on h
  pick false Yes No Goal h is on = absurd (cc)

  other : (b : Bool) (Yes No Goal : Type 0) → MatchBool b Yes No → b ≡ false → (No → Goal) → Goal
  other true Yes No Goal h is on = absurd (cc)
  other false Yes No Goal h is on = on h

  pub so_many_arms : (task : ℕ) (records : List Record) (arms : List Arm) → AreArmsBy list task records arms
      → length arms ≡ count_by (of_record is_remove) (records_of task records)
  so_many_arms task [] arms are = ap (λ (l : List Arm). length l) are
  so_many_arms task (latest ∷ earlier) arms are =
      let rest = so_many_arms task earlier are.0 are.1 in
      elim (eqb_tells latest.task task) [
        | inl mine ↦ pick (latest.task == task) _ _ _ are.2 mine.0 (λ h.
            let now = arms_at_step task latest.step latest.answer earlier are.0 arms h in
            let own : count_by (of_record is_remove) (records_of task (latest ∷ earlier)) ≡ count_by (of_record is_remove) (latest ∷ records_of task earlier) =
            ap (λ (r : List Record). count_by (of_record is_remove) r) (own_latest task latest earlier mine.1) in
            let one = counted (of_record is_remove) latest (records_of task earlier) in omega (arith, rest, now, own, one))
        | inr others ↦ other (latest.task == task) _ _ _ are.2 others.0 (λ h.
            let same : length arms ≡ length are.0 = ap (λ (l : List Arm). length l) h in
            let own : count_by (of_record is_remove) (records_of task (latest ∷ earlier)) ≡ count_by (of_record is_remove) (records_of task earlier) =
            ap (λ (r : List Record). count_by (of_record is_remove) r) (let stays : records_of task (latest ∷ earlier) ≡ records_of task earlier = rw others.0 refl in stays) in
            omega (arith, rest, same, own))
      ]

  -- a taking for each tell, at most
  told_one : (index ticket : ℕ) (last : Option ℕ) (both : Option Halves) → length (told_to index ticket last both []) ≤ 1
  told_one index ticket (Some number) (Some both) = omega arith
  told_one index ticket None both = omega arith
  told_one index ticket (Some number) None = omega arith

  told_step : (task : ℕ) (step : Step) (answer : Answer) (earlier : List Record)
      → length (told_by task step earlier []) ≤ cond (is_tell step answer) 1 0
  told_step task (steps.Tell index ticket) answer earlier =
      told_one index ticket (last_arming_number index earlier) (heard index (records_of task earlier))
  told_step task step answer earlier = omega arith

  pub so_many_takes : (task : ℕ) (records : List Record)
      → length (takes_by task records) ≤ count_by (of_record is_tell) (records_of task records)
  so_many_takes task [] = omega arith
  so_many_takes task (latest ∷ earlier) =
      let rest = so_many_takes task earlier in
      let told : List Meeting = told_by latest.task latest.step earlier [] in
      let now = told_step latest.task latest.step latest.answer earlier in
      let size : length (map take_of told) ≡ length told = length-map told take_of in
      elim (eqb_tells latest.task task) [
        | inl mine ↦
            let all_so : length (takes_by task (latest ∷ earlier)) ≡ length (takes_by task earlier ++ map take_of told) =
            ap (λ (b : Bool). length (takes_by task earlier ++ (if b then map take_of told else []))) mine.0 in
            let parts = length-append (takes_by task earlier) (map take_of told) in
            let own : count_by (of_record is_tell) (records_of task (latest ∷ earlier)) ≡ count_by (of_record is_tell) (latest ∷ records_of task earlier) =
            ap (λ (r : List Record). count_by (of_record is_tell) r) (own_latest task latest earlier mine.1) in
            let one = counted (of_record is_tell) latest (records_of task earlier) in omega (arith, rest, now, size, all_so, parts, own, one)
        | inr others ↦
            let all_so : length (takes_by task (latest ∷ earlier)) ≡ length (takes_by task earlier ++ []) =
            ap (λ (b : Bool). length (takes_by task earlier ++ (if b then map take_of told else []))) others.0 in
            let parts : length (takes_by task earlier ++ []) ≡ length (takes_by task earlier) = ap (λ (l : List Take). length l) (append-nil (takes_by task earlier)) in
            let own : count_by (of_record is_tell) (records_of task (latest ∷ earlier)) ≡ count_by (of_record is_tell) (records_of task earlier) =
            ap (λ (r : List Record). count_by (of_record is_tell) r) (let stays : records_of task (latest ∷ earlier) ≡ records_of task earlier = rw others.0 refl in stays) in
            omega (arith, rest, all_so, parts, own)
      ]

  -- no more accesses than have begun
  pub few_ended : (task : ℕ)
      → count_by is_end (did_by (list.tasks task) (made_by task all)) ≤ begins_in (did_by (list.tasks task) (made_by task all))
  few_ended task =
      let whole = whole_runs (task_setting run task) (length (task_of run task).registers) (task_of run task).body
      (reverse (records_of task all) ++ (list.tasks task).more) (list.tasks task).whole in
      let rest = did_of_all (list.tasks task) (made_by task all) in
      let there = runs_split [] (did_by (list.tasks task) (made_by task all)) rest.0 [] (subst (λ (d : List Happening). Runs [] d []) rest.1 whole) in
      let few = ends_begin [] (did_by (list.tasks task) (made_by task all)) there.0 there.1 in omega (arith, few)
