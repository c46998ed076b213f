-- What is found of all tasks, by what comes of each.
use Rattle.std.proofs.Common.{◌≡◌, ◌⊎◌, ◌<◌, ◌≤◌, ◌∙◌, ◌∷◌, [], ℕ, zero, suc, Err, IfErr, List, Ok, Result, Some, All, ap, arith, get_or, inl, inr, length, map, reverse, slice_get, subst, sym}
use Rattle.std.proofs.lemmas.List.{length-map, reverse-reverse}
use Rattle.std.proofs.lemmas.Option.{slice_get_cases}
use Rattle.litmus_step.specs.Runs.{tasks_of}
use Rattle.litmus_syntax.specs.Tree.{Block}
use Rattle.executions.specs.execution.Run.{Run, task_of, task_setting}
use Rattle.runner.specs.TaskResult.{AreFound, IsFound, IsFailedWait, IsThrough}
use Rattle.runner.specs.Starts.{AreOutcomes}
use Rattle.prepared_program.specs.declared.program_sites.error.RunError.{RunError}
use Rattle.prepared_program.specs.declared.program_sites.error.RunError.TheVariants.{OutOfMemory, Stuck}
use Rattle.runner.specs.declared.seated.TaskResult.{TaskResult}
use Rattle.shared_table.specs.Ended.{HasUnfinished, IsMissing}
use Rattle.shared_table.specs.Given.{Given}
use Rattle.shared_table.specs.Seats.{Opened, Sitting}
use Rattle.slot_table.specs.Discipline.{IsFinished}
use Rattle.slot_table.specs.declared.records.Record.{Record}
use Rattle.program_order.specs.Standing.{Setting}
use Rattle.program_order.specs.WrittenOrder.{SpellsAll}

same_some : {X : Type 0} (one other : X) → Some one ≡ Some other → one ≡ other
same_some one other same = cc

at_map : {X Y : Type 0} (f : X → Y) (xs : List X) (at : ℕ) (x : X) (d : Y) → slice_get xs at ≡ Some x → get_or (map f xs) at d ≡ f x
at_map f [] at x d is = absurd (cc)
at_map f (first ∷ later) zero x d is = ap f (same_some first x is)
at_map f (first ∷ later) (suc at) x d is = at_map f later at x d is

pub err_holds : {X : Type 0} (P : RunError → Type 0) (result : Result X RunError) (error : RunError) → result ≡ Err error → P error → IfErr result P
err_holds {X = X} P result error is holds = subst (λ (r : Result X RunError). IfErr r P) (sym is) holds

pub same_error : {X : Type 0} (result : Result X RunError) (one other : RunError) → result ≡ Err one → result ≡ Err other → one ≡ other
same_error result one other is_one is_other = cc

same_task : (one other : ℕ) → Stuck one ≡ Stuck other → one ≡ other
same_task one other same = cc

no_memory_is_not_stuck : (task : ℕ) → OutOfMemory ≡ Stuck task → ⊥
no_memory_is_not_stuck task same = absurd (cc)

-- a refusal that names a task or wants memory is this one
pub names_or_wants : {X : Type 0} (result : Result X RunError) (error : RunError)
    → IfErr result (λ e. ((task : ℕ) × (e ≡ Stuck task)) ⊎ (e ≡ OutOfMemory)) → result ≡ Err error
    → ((task : ℕ) × (error ≡ Stuck task)) ⊎ (error ≡ OutOfMemory)
names_or_wants {X = X} result error each is = subst (λ (r : Result X RunError). IfErr r (λ e. ((task : ℕ) × (e ≡ Stuck task)) ⊎ (e ≡ OutOfMemory))) is each

module _ (run : Run) (opened : Opened) (outcomes : List (Result TaskResult RunError)) (are : AreOutcomes run opened (tasks_of run) outcomes) where
  -- the error at a place is of the task of that number, or wants memory
  error_at : (at : ℕ) (error : RunError) → slice_get outcomes at ≡ Some (Err error) → (error ≡ Stuck at) ⊎ (error ≡ OutOfMemory)
  error_at at error is = (are.each at (Err error) is).errors

  pub named_at : (at : ℕ) (error : RunError) (task : ℕ) → slice_get outcomes at ≡ Some (Err error) → error ≡ Stuck task → at ≡ task
  named_at at error task is named =
      elim (error_at at error is) [
        | inl own ↦ same_task at task (sym own ∙ named)
        | inr memory ↦ absurd (no_memory_is_not_stuck task (sym memory ∙ named))
      ]

  pub is_failed_wait : (at : ℕ) (error : RunError) (task : ℕ) → slice_get outcomes at ≡ Some (Err error) → error ≡ Stuck task → IsFailedWait run task
  is_failed_wait at error task is named =
      let here = named_at at error task is named in
      subst (IsFailedWait run) here
      ((are.each at (Err error) is).stuck (ap (λ (e : RunError). Err e) (named ∙ ap Stuck (sym here))))

  pub refused_so : (at : ℕ) (error : RunError) → slice_get outcomes at ≡ Some (Err error) → ((task : ℕ) × (error ≡ Stuck task)) ⊎ (error ≡ OutOfMemory)
  refused_so at error is =
      elim (error_at at error is) [
        | inl own ↦ inl (at, own)
        | inr memory ↦ inr memory
      ]

  module _ (found : List TaskResult) (each : (task : ℕ) (one : TaskResult) → slice_get found task ≡ Some one → slice_get outcomes task ≡ Some (Ok one)) where
    -- all below the first error came to the end of their texts
    pub through_below : (below : ℕ) → below < length found → IsThrough run below
    through_below below less =
        elim (slice_get_cases found below).1 [
          | inl there ↦
              let it : IsFound run opened below there.0 = (are.each below (Ok there.0) (each below there.0 there.2)).found in
              record { own = there.0.seat.records; written = it.written; within = it.within; whole = it.whole }
          | inr beyond ↦ let over : length found ≤ below = beyond.0 in absurd (omega (arith, less, over))
        ]

    pub all_are_found : length found ≡ length outcomes → AreFound run opened found
    all_are_found count = record {
      all = count ∙ are.all;
      each = λ task one is. (are.each task (Ok one) (each task one is)).found;
    }

abbrev pub EndedAreFinished : Type 0
EndedAreFinished = (s : Setting) (registers : ℕ) (body : Block) (records : List Record)
    → SpellsAll s registers body records → IsFinished (reverse records)

module _ (run : Run) (opened : Opened) (found : List TaskResult) (are : AreFound run opened found) (seats : List Sitting)
    (taken : seats ≡ map (λ (f : TaskResult). f.seat) found) where
  -- the seat at a place is that of what was found there
  seat_at : (at : ℕ) (d : Sitting) → at < length seats → (one : TaskResult) × (slice_get found at ≡ Some one) × (get_or seats at d ≡ one.seat)
  seat_at at d below =
      elim (slice_get_cases found at).1 [
        | inl there ↦
            (there.0, there.2, ap (λ (all : List Sitting). get_or all at d) taken ∙ at_map (λ (f : TaskResult). f.seat) found at there.0 d there.2)
        | inr beyond ↦
            let over : length found ≤ at = beyond.0 in
            let long : length seats ≡ length found = ap length taken ∙ length-map found (λ (f : TaskResult). f.seat) in
            absurd (omega (arith, below, over, long))
      ]

  pub at_the_table : All (λ (seat : Sitting). seat.table ≡ opened) seats
  at_the_table = λ at d below.
      let it = seat_at at d below in
      ap (λ (s : Sitting). s.table) it.2 ∙ (are.each at it.0 it.1).table

  -- no seat is missing, and none has a check unfinished
  pub all_are_here : EndedAreFinished → (given : Given) → given.tasks ≡ tasks_of run → (IsMissing given seats ⊎ HasUnfinished seats) → ⊥
  all_are_here finished given tasks none =
      let long : length seats ≡ length found = ap length taken ∙ length-map found (λ (f : TaskResult). f.seat) in
      elim none [
        | inl missing ↦
            let task : ℕ = missing.0 in
            let less : task < given.tasks = missing.1 in
            let below : task < length seats = omega (arith, less, tasks, are.all, long) in
            let d : Sitting = record { table = opened; task = task; records = [] } in
            let it = seat_at task d below in
            missing.2 task d below (ap (λ (s : Sitting). s.task) it.2 ∙ (are.each task it.0 it.1).own)
        | inr unfinished ↦
            let at : ℕ = unfinished.1.0 in
            let seat : Sitting = unfinished.0 in
            let it = seat_at at seat unfinished.1.1 in
            let one : TaskResult = it.0 in
            let own : List Record = one.seat.records in
            let over : IsFinished (reverse (reverse own)) =
            finished (task_setting run at) (length (task_of run at).registers) (task_of run at).body (reverse own) (are.each at one it.1).whole in
            unfinished.2 (subst (λ (s : Sitting). IsFinished s.records) (sym it.2 ∙ unfinished.1.2)
            (subst IsFinished (reverse-reverse own) over))
      ]
