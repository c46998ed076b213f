-- What the history decides of an access that begins.
use Rattle.std.specs.Prelude.{◌↔◌, Bool, IsTrue, List}
use Rattle.access_types.specs.Access.{Access}
use Rattle.access_types.specs.Marked.{CountedAsMarked, Silenced}
use Rattle.access_types.specs.Stamped.{Stamped}
use Rattle.executions.specs.execution.Run.{Run}
use Rattle.executions.specs.execution.Execution.{Execution}
use Rattle.executions.specs.execution.Observed.{history_of}
use Rattle.slot_table.specs.declared.records.Record.{Record}

-- an access is said to be marked exactly where it counts as marked in the history that the list tells, and
-- silenced exactly where it is silenced there
abbrev pub IsDecided : {run : Run} {all : List Record} → Execution run all → Access → Bool → Bool → Type 0
IsDecided {run = run} list a marked silenced =
    (IsTrue marked ↔ CountedAsMarked run.rules.plain_writes_atomic (history_of list) a)
    × (IsTrue silenced ↔ Silenced (history_of list) a)

-- so it is of an access that has ended
abbrev pub IsStampedSo : {run : Run} {all : List Record} → Execution run all → Stamped → Type 0
IsStampedSo list stamped = IsDecided list stamped.access stamped.marked stamped.silenced
