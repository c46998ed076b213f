-- What is noted of a task's records: the access that begins with each, and the outcome that falls at it.
use Rattle.std.specs.Prelude.{◌≡◌, ◌↔◌, ℕ, Bool, IsTrue, List, [], ◌∷◌, Option, None, Some, filter_map, length, map}
use Rattle.std.specs.Option.{option_to_list}
use Rattle.access_types.specs.Access.{Access}
use Rattle.access_types.specs.Marked.{CountsAfter, EndsRaised, is_disable, is_enable, marks_of}
use Rattle.access_types.specs.declared.history.Happening.{Happening}
use Rattle.access_types.specs.declared.history.Happening.TheVariants.{Begin}
use Rattle.litmus_syntax.specs.Tree.{Block}
use Rattle.executions.specs.execution.Run.{Run}
use Rattle.executions.specs.execution.Execution.{Execution}
use Rattle.executions.specs.execution.Observed.{moments_of}
use Rattle.setup_access.specs.declared.begun.Begun.{Begun}
use Rattle.slot_table.specs.Records.{records_of}
use Rattle.slot_table.specs.declared.records.Record.{Record}
use Rattle.task_log.specs.declared.noted.Noted.{Noted}
use Rattle.program_order.specs.Standing.{Setting}
use Rattle.program_order.specs.TaskObserved.{did_by, did_next, fell_next}
use Rattle.program_order.specs.WrittenOrder.{WrittenOrder}

abbrev pub begun_by : Happening → Option Access
begun_by (Begin a) = Some a
begun_by happening = None

-- the accesses that begin in what a task did
abbrev pub begun_in : List Happening → List Access
begun_in did = filter_map begun_by did

-- In what a task did next no access begins, or this one alone: by what it did before it counts as marked
-- or not, and is silenced or not.
abbrev pub IsBegun : Bool → ℕ → List Happening → List Happening → Option Begun → Type 0
IsBegun plain_writes_atomic task before next None = begun_in next ≡ []
IsBegun plain_writes_atomic task before next (Some begun) =
    (begun_in next ≡ begun.access ∷ [])
    × (IsTrue begun.marked ↔ CountsAfter plain_writes_atomic begun.access (moments_of task before))
    × (IsTrue begun.silenced ↔ EndsRaised is_disable is_enable (marks_of task (moments_of task before)))

-- this is noted of a task's record that so many of its own come before: its step and its answer, the
-- access that begins with it, and the outcome of a check that falls at it
pub record IsNoted {s : Setting} {registers : ℕ} {body : Block} {records : List Record}
    (written : WrittenOrder s registers body records) (made : ℕ) (latest : Record) (noted : Noted) :
    Type 0 where
  pub step : noted.step ≡ latest.step
  pub answer : noted.answer ≡ latest.answer
  pub begins : IsBegun s.rules.plain_writes_atomic s.text.task (did_by written made)
      (did_next written made) noted.begins
  pub outcome : map (λ fallen. fallen.outcome) (fell_next written made) ≡ option_to_list noted.outcome

-- so much is noted of these records of a task, the latest first
abbrev pub AreNoted : {s : Setting} {registers : ℕ} {body : Block} {records : List Record}
    → WrittenOrder s registers body records → List Record → List Noted → Type 0
AreNoted written [] [] = Unit {0}
AreNoted written (latest ∷ earlier) (noted ∷ before) =
    AreNoted written earlier before × IsNoted written (length earlier) latest noted
AreNoted written own noted = ⊥

-- what an execution notes of a task by some of its records, the latest first
abbrev pub NotesBy : {run : Run} {all : List Record} → Execution run all → List Record → ℕ → List Noted
    → Type 0
NotesBy list records task noted = AreNoted (list.tasks task) (records_of task records) noted

-- what it notes of the task
abbrev pub Notes : {run : Run} {all : List Record} → Execution run all → ℕ → List Noted → Type 0
Notes {all = all} list task noted = NotesBy list all task noted
