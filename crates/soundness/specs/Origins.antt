-- What a report of unknown origin says.
use Rattle.std.specs.Prelude.{List}
use Rattle.access_types.specs.Race.{ChangedUnderWatch}
use Rattle.litmus_semantics.specs.Layout.{memory_at_first}
use Rattle.executions.specs.execution.Run.{Run}
use Rattle.executions.specs.execution.Execution.{Execution}
use Rattle.executions.specs.execution.Observed.{OutcomeAt, history_of}
use Rattle.setup_access.specs.declared.outcome.Outcome.{Outcome}
use Rattle.setup_access.specs.declared.outcome.Outcome.TheVariants as outcomes
use Rattle.slot_table.specs.declared.records.Record.{Record}

-- The bytes of the access that was checked changed from the old value to the new while it was in
-- progress, by no moment of its own task: in the history that the list tells, from the first content
-- of memory on.
abbrev pub IfUnknown : {run : Run} {records : List Record} → Execution run records → OutcomeAt → Outcome → Type 0
IfUnknown {run = run} list came (outcomes.Unknown old new) =
    ChangedUnderWatch (memory_at_first run.places run.program.variables) (history_of list) came.access
    old new
IfUnknown list came outcome = Unit {0}

-- so it is if what came of a check is a report of unknown origin
abbrev pub NamesChange : {run : Run} {records : List Record} → Execution run records → OutcomeAt → Type 0
NamesChange list came = IfUnknown list came came.outcome
