-- Which accesses are in progress at the end of an execution or of one of its beginnings, by their own tasks' records,
-- and what is decided of them.
use Rattle.std.specs.Prelude.{◌≡◌, ◌++◌, ◌↔◌, Bool, IsTrue, List}
use Rattle.access_types.specs.Access.{Access}
use Rattle.access_types.specs.History.{History}
use Rattle.access_types.specs.Marked.{CountedAsMarked, Silenced}
use Rattle.executions.specs.execution.Run.{Run, task_setting}
use Rattle.executions.specs.execution.Execution.{Execution, InWrittenOrder}
use Rattle.executions.specs.execution.Observed.{history_of, made_by}
use Rattle.setup_access.specs.declared.begun.Begun.{Begun}
use Rattle.slot_table.specs.Records.{records_of}
use Rattle.slot_table.specs.declared.records.Record.{Record}
use Rattle.program_order.specs.InProgress.{IsInProgressAs}
use Rattle.program_order.specs.TaskObserved.{did_by}

-- After these records of a run the access is in progress, with what was decided of it as it began, by any reading of
-- its task's records.
abbrev pub IsInProgressAfter : Run → List Record → Begun → Type 0
IsInProgressAfter run records begun =
    let task = begun.access.task in
    (written : InWrittenOrder run task (records_of task records))
    → IsInProgressAs (task_setting run task) (did_by written (made_by task records)) begun

-- in a history the access counts as marked, and is silenced, as was decided
pub record IsDecidedIn (plain_writes_atomic : Bool) (history : History) (a : Access) (begun : Begun) : Type 0 where
  pub marked : IsTrue begun.marked ↔ CountedAsMarked plain_writes_atomic history a
  pub silenced : IsTrue begun.silenced ↔ Silenced history a

-- Both accesses are in progress at the end of one beginning of an execution, with the same decided of them as in the
-- history that the whole execution tells.
pub record AreBothInProgress {run : Run} {records : List Record} (list : Execution run records) (first second : Access) :
    Type 0 where
  pub later : List Record
  pub earlier : List Record
  pub split : records ≡ later ++ earlier
  pub one : Begun
  pub other : Begun
  pub first_is : one.access ≡ first
  pub second_is : other.access ≡ second
  pub first_goes : IsInProgressAfter run earlier one
  pub second_goes : IsInProgressAfter run earlier other
  pub first_decided : IsDecidedIn run.rules.plain_writes_atomic (history_of list) first one
  pub second_decided : IsDecidedIn run.rules.plain_writes_atomic (history_of list) second other
