-- What a task does at its records: the events of history, with their accesses and values.
use Rattle.std.specs.Prelude.{◌≡◌, ◌<◌, ◌^◌, ◌++◌, ◌⊎◌, ℕ, true, List, [], ◌∷◌, IsTrue, Some}
use Rattle.access_types.specs.Access.{Access}
use Rattle.access_types.specs.Race.{bytes_of}
use Rattle.access_types.specs.declared.history.Happening.{Happening}
use Rattle.access_types.specs.declared.history.Happening.TheVariants as happenings
use Rattle.litmus_semantics.specs.Task.{has_lock}
use Rattle.access_run.specs.memory_operation.Values.{with_value}
use Rattle.executions.specs.execution.Run.{Run, task_setting}
use Rattle.executions.specs.execution.Execution.{Execution}
use Rattle.executions.specs.execution.Observed.{made_by}
use Rattle.setup_access.specs.Values.{source_of, value_in}
use Rattle.setup_access.specs.declared.source.Source.{Source}
use Rattle.slot_table.specs.declared.records.Record.{Record}
use Rattle.slot_table.specs.declared.step.Answer.{Answer}
use Rattle.slot_table.specs.declared.step.Answer.TheVariants as answers
use Rattle.slot_table.specs.declared.step.Step.{Step}
use Rattle.slot_table.specs.declared.step.Step.TheVariants.{CellExchange, CellLoad, Clock, LockStore, LockTry}
use Rattle.program_order.specs.Standing.{IsLockAt, Setting, checks_of, lock_number}
use Rattle.program_order.specs.TaskObserved.{did_by, did_next}

abbrev pub IsMark : Happening → Type 0
IsMark (happenings.Mark mark) = Unit {0}
IsMark happening = ⊥

-- marks, which make no step
abbrev pub AreMarks : List Happening → Type 0
AreMarks [] = Unit {0}
AreMarks (happening ∷ later) = IsMark happening × AreMarks later

-- a read of an access's bytes, which lie in this cell: the value is theirs in the word that was answered
pub record Reads (s : Setting) (cell : ℕ) (answer : Answer) (did : List Happening) : Type 0 where
  pub word : ℕ
  pub answered : answer ≡ answers.Word word
  pub access : Access
  pub source : Source
  pub lies : source_of (checks_of s) access ≡ Some source
  pub there : source.cell ≡ cell
  pub is : did ≡ happenings.Read (bytes_of access) (value_in access source word) ∷ []

-- such a read, or nothing
abbrev pub ReadsAtMost : Setting → ℕ → Answer → List Happening → Type 0
ReadsAtMost s cell answer did = (did ≡ []) ⊎ Reads s cell answer did

-- A write of an access's bytes, which lie in this cell, from its old word to its new one: the new word
-- has the value in their place, and else what the old one had. What they held is read before, or not.
pub record Writes (s : Setting) (cell old new : ℕ) (did : List Happening) : Type 0 where
  pub access : Access
  pub source : Source
  pub lies : source_of (checks_of s) access ≡ Some source
  pub there : source.cell ≡ cell
  pub value : ℕ
  pub fits : value < 256 ^ access.size
  pub lays : new ≡ with_value access source old value
  pub is : (did ≡ happenings.Write (bytes_of access) value ∷ [])
      ⊎ (did ≡ happenings.Read (bytes_of access) (value_in access source old)
      ∷ happenings.Write (bytes_of access) value ∷ [])

-- The event of a record of a task which had done this before, by the record's step and its answer. A
-- step of the clock begins or ends an access. An exchange that is accepted writes; a load of a cell or a
-- refused exchange reads or is none. A try that finds a lock's word free takes the lock, and a store
-- gives one up that the task has. All else is none.
abbrev pub IsEvent : Setting → List Happening → Step → Answer → List Happening → Type 0
IsEvent s before Clock answer did =
    (a : Access) × ((did ≡ happenings.Begin a ∷ []) ⊎ (did ≡ happenings.End a ∷ []))
IsEvent s before (CellLoad cell) answer did = ReadsAtMost s cell answer did
IsEvent s before (CellExchange cell expected new) (answers.Flag true) did =
    Writes s cell expected new did
IsEvent s before (CellExchange cell expected new) answer did = ReadsAtMost s cell answer did
IsEvent s before (LockTry lock holder) (answers.Flag true) did =
    (variable : ℕ) × (holder ≡ s.text.task) × IsLockAt s variable × (lock ≡ lock_number s variable)
    × (did ≡ happenings.Lock variable ∷ [])
IsEvent s before (LockStore lock) answer did =
    (variable : ℕ) × IsTrue (has_lock variable before) × (lock ≡ lock_number s variable)
    × (did ≡ happenings.Unlock variable ∷ [])
IsEvent s before step answer did = did ≡ []

-- what a task does at a record is its event, and then the marks before its next step
pub record DoesEvent (s : Setting) (before : List Happening) (step : Step) (answer : Answer)
    (did : List Happening) : Type 0 where
  pub event : List Happening
  pub marks : List Happening
  pub all : did ≡ event ++ marks
  pub is_event : IsEvent s before step answer event
  pub are_marks : AreMarks marks

-- so is it at each of these records
abbrev pub EachDoesItsEvent : {run : Run} {all : List Record} → Execution run all → List Record → Type 0
EachDoesItsEvent list [] = Unit {0}
EachDoesItsEvent {run = run} list (latest ∷ earlier) =
    EachDoesItsEvent list earlier
    × DoesEvent (task_setting run latest.task)
    (did_by (list.tasks latest.task) (made_by latest.task earlier)) latest.step latest.answer
    (did_next (list.tasks latest.task) (made_by latest.task earlier))
