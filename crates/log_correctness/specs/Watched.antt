-- Which accesses set watchpoints up, and which hit them.
use Rattle.std.specs.Prelude.{◌≡◌, ◌≢◌, ◌<◌, IsTrue, List, Some, length}
use Rattle.access_types.specs.Access.{Access, IsInLimits}
use Rattle.access_types.specs.Marked.{CountedAsMarked, Silenced}
use Rattle.executions.specs.execution.Run.{IsOfProgram, Run}
use Rattle.executions.specs.execution.Execution.{Execution}
use Rattle.executions.specs.execution.Observed.{OutcomeAt, history_of}
use Rattle.soundness.specs.Watches.{is_verdict}
use Rattle.setup_access.specs.declared.outcome.Outcome.TheVariants as outcomes
use Rattle.slot.specs.Pair.{Halves}
use Rattle.slot_table.specs.declared.records.Record.{Record}
use Rattle.watch_word.specs.Word.{Encodable}

-- a word can stand for the access, and in the history that the list tells it doesn't count as marked and isn't
-- silenced
pub record MayBeWatched {run : Run} {records : List Record} (list : Execution run records) (a : Access) : Type 0 where
  pub encodable : Encodable a
  pub unmarked : ¬ CountedAsMarked run.rules.plain_writes_atomic (history_of list) a
  pub heard : ¬ Silenced (history_of list) a

-- so it is of the access that was checked if the outcome is a verdict on its watchpoint
abbrev pub IfWatched : {run : Run} {records : List Record} → Execution run records → OutcomeAt → Type 0
IfWatched list came = IsTrue (is_verdict came.outcome) → MayBeWatched list came.access

-- and it isn't silenced if it told the setter of a watchpoint that it had hit
abbrev pub IfTold : {run : Run} {records : List Record} → Execution run records → OutcomeAt → Type 0
IfTold list came = (pair : Halves) → came.outcome ≡ outcomes.Told pair → ¬ Silenced (history_of list) came.access

-- the access is one of the text of its task, which the program has; it is within the limits of accesses, has bytes, and
-- has no mask without a bit
pub record FitsItsTask (run : Run) (a : Access) : Type 0 where
  pub below : a.task < length run.program.tasks
  pub limits : IsInLimits a
  pub has_bytes : 0 < a.size
  pub mask : a.mask ≢ Some 0
  pub is_of : IsOfProgram run a
