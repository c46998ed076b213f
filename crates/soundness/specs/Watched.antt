-- What a report of unknown origin says of the watch that it is of.
use Rattle.std.specs.Prelude.{◌≡◌, ◌++◌, ℕ, true, List, [], ◌∷◌, Some, length}
use Rattle.access_types.specs.History.{content}
use Rattle.access_types.specs.Race.{ChangedUnderWatch, bytes_of}
use Rattle.access_types.specs.Ticket.{ticket_number}
use Rattle.litmus_semantics.specs.Layout.{memory_at_first}
use Rattle.executions.specs.execution.Run.{Run, task_setting}
use Rattle.executions.specs.execution.Execution.{Execution}
use Rattle.executions.specs.execution.Observed.{OutcomeAt, history_by, history_of}
use Rattle.soundness.specs.Watches.{IsOfWatch}
use Rattle.setup_access.specs.Values.{source_of}
use Rattle.setup_access.specs.declared.outcome.Outcome.{Outcome}
use Rattle.setup_access.specs.declared.outcome.Outcome.TheVariants as outcomes
use Rattle.setup_access.specs.declared.source.Source.{Source}
use Rattle.slot_table.specs.Records.{records_of}
use Rattle.slot_table.specs.declared.records.Record.{Record}
use Rattle.slot_table.specs.declared.step.Answer.TheVariants.{Flag}
use Rattle.slot_table.specs.declared.step.Step.TheVariants.{CellLoad, Consume, Name}
use Rattle.program_order.specs.Standing.{checks_of}

-- The watch of the access that was checked has two loads of its cell, between the step by which its setter
-- named itself and the consume that found its word untouched. In the history that the list tells the
-- content of its bytes is the old value as the first is made and the new one as the second is, and no
-- step of its own task stands between the two. So its bytes changed from the one to the other.
pub record ChangedInWatch {run : Run} {records : List Record} (list : Execution run records) (came : OutcomeAt)
    (old new : ℕ) : Type 0 where
  pub watched : IsOfWatch list came
  pub index : ℕ
  pub source : Source
  pub lies : source_of (checks_of (task_setting run came.access.task)) came.access ≡ Some source
  pub tries : List Record
  pub name : Record
  pub first : Record
  pub second : Record
  pub consume : Record
  pub watch : watched.watch ≡ tries ++ name ∷ first ∷ second ∷ consume ∷ []
  pub names : name.step ≡ Name index (ticket_number came.access)
  pub loads : first.step ≡ CellLoad source.cell
  pub loads_again : second.step ≡ CellLoad source.cell
  pub consumes : consume.step ≡ Consume index
  pub untouched : consume.answer ≡ Flag true
  pub later : List Record
  pub between : List Record
  pub earlier : List Record
  pub split : records ≡ later ++ second ∷ (between ++ first ∷ earlier)
  pub others : records_of came.access.task between ≡ []
  pub was : content (memory_at_first run.places run.program.variables) (history_of list)
      (length (history_by list earlier)) (bytes_of came.access) ≡ old
  pub is : content (memory_at_first run.places run.program.variables) (history_of list)
      (length (history_by list (between ++ first ∷ earlier))) (bytes_of came.access) ≡ new
  pub changed : ChangedUnderWatch (memory_at_first run.places run.program.variables) (history_of list)
      came.access old new

-- so it is of what came of a check, if that is a report of unknown origin
abbrev pub IfUnknownInWatch : {run : Run} {records : List Record} → Execution run records → OutcomeAt → Outcome
    → Type 0
IfUnknownInWatch list came (outcomes.Unknown old new) = ChangedInWatch list came old new
IfUnknownInWatch list came outcome = Unit {0}

abbrev pub NamesWatched : {run : Run} {records : List Record} → Execution run records → OutcomeAt → Type 0
NamesWatched list came = IfUnknownInWatch list came came.outcome
