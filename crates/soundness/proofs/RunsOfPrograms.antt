-- The history that an execution tells is that of a run of the program.
use Rattle.std.proofs.Common.{◌≡◌, ◌<◌, ◌≤◌, ◌∷◌, ◌++◌, ◌∙◌, [], ℕ, zero, suc, All, IfSome, List, None, Option, Some, append_assoc, arith, length, refl, slice_get, sym, take}
use Rattle.std.proofs.lemmas.List.Elements.{All-append, All-cons, All-nil}
use Rattle.access_types.specs.History.{History, Memory}
use Rattle.access_types.specs.declared.history.Happening.{Happening}
use Rattle.access_types.specs.declared.history.Happening.TheVariants as happenings
use Rattle.access_types.specs.declared.history.Moment.{Moment}
use Rattle.litmus_semantics.specs.Layout.{memory_at_first}
use Rattle.litmus_semantics.specs.RunOfProgram.{IsPossible, RunOfProgram}
use Rattle.slot_table.specs.declared.records.Record.{Record}
use Rattle.program_order.specs.TaskObserved.{did_by, did_next}
use Rattle.executions.specs.execution.Run.{Run}
use Rattle.executions.specs.execution.Execution.{Execution}
use Rattle.executions.specs.execution.Observed.{first_moments, history_by, history_of, made_by, moments_of}
use Rattle.executions.proofs.execution.Histories.{each_begins}
use Rattle.soundness.specs.Events.{AreMarks, EachDoesItsEvent}
use Rattle.soundness.proofs.Watches.{is_below}
use Rattle.soundness.specs.HeldReads.{HoldsContent, ReadsHold}
use Rattle.soundness.proofs.Alone.{nothing_else}
use Rattle.soundness.proofs.Locks.{LockNow, after_held, all_locked, locks_at}

-- what may happen, by the content and by who holds which lock
possible : (initial : Memory) (history : History) (k task : ℕ) (happening : Happening) → HoldsContent initial history k happening
    → LockNow (after_held (λ lock. None) (take k history)) task happening → IsPossible initial history k task happening
possible initial history k task (happenings.Read bytes value) read lock = read
possible initial history k task (happenings.Lock l) read lock = lock
possible initial history k task (happenings.Unlock l) read lock = lock
possible initial history k task (happenings.Begin a) read lock = tt
possible initial history k task (happenings.End a) read lock = tt
possible initial history k task (happenings.Write bytes value) read lock = tt
possible initial history k task (happenings.Mark mark) read lock = tt

both_there : (o : Option Moment) (P Q R : Moment → Type 0) → ((moment : Moment) → P moment → Q moment → R moment) → IfSome o P → IfSome o Q → IfSome o R
both_there None P Q R each p q = tt
both_there (Some moment) P Q R each p q = each moment p q

module _ (run : Run) (records : List Record) (list : Execution run records) where
  abbrev IsTask : Moment → Type 0
  IsTask moment = moment.task < length run.program.tasks

  its_task : (task : ℕ) (did : List Happening) → task < length run.program.tasks → All IsTask (moments_of task did)
  its_task task [] below = All-nil IsTask
  its_task task (first ∷ did) below = All-cons IsTask (record { task = task; happening = first }) (moments_of task did) below (its_task task did below)

  before_steps : (tasks : ℕ) → tasks ≤ length run.program.tasks → All IsTask (first_moments list tasks)
  before_steps zero below = All-nil IsTask
  before_steps (suc task) below =
      All-append IsTask (first_moments list task) (moments_of task (did_by (list.tasks task) 0)) (before_steps task (omega (arith, below)))
      (its_task task (did_by (list.tasks task) 0) (omega (arith, below)))

  tasks_by : (later earlier : List Record) → records ≡ later ++ earlier → All IsTask (history_by list earlier)
  tasks_by later [] is = before_steps (length run.program.tasks) (omega arith)
  tasks_by later (latest ∷ earlier) is =
      let did : List Happening = did_next (list.tasks latest.task) (made_by latest.task earlier) in
      All-append IsTask (history_by list earlier) (moments_of latest.task did)
      (tasks_by (later ++ latest ∷ []) earlier (is ∙ sym (append_assoc later (latest ∷ []) earlier)))
      (its_task latest.task did (is_below run records list latest earlier later is))

  pub is_run : ((task : ℕ) → AreMarks (did_by (list.tasks task) 0)) → EachDoesItsEvent list records
      → ReadsHold (memory_at_first run.places run.program.variables) (history_of list) → RunOfProgram run.program run.places (history_of list)
  is_run first events reads =
      let tasks : All IsTask (history_of list) = tasks_by [] records refl in
      record {
        tasks = tasks;
        begun = each_begins run records list;
        possible = λ k. both_there (slice_get (history_of list) k) _ _ _
            (λ moment read lock. possible (memory_at_first run.places run.program.variables) (history_of list) k moment.task moment.happening read lock)
            (reads k) (locks_at (λ lock. None) (history_of list) (all_locked run records list first events) k);
        alone = nothing_else run records list tasks;
      }
