-- What the reports of an execution name.
use Rattle.std.specs.Prelude.{◌≡◌, ℕ, List, Contains, Some}
use Rattle.access_types.specs.Access.{Access}
use Rattle.access_types.specs.Marked.{CountedAsMarked}
use Rattle.access_types.specs.Race.{ChangedUnderWatch, TrueRace}
use Rattle.access_types.specs.Ticket.{ticket_number}
use Rattle.access_types.specs.declared.report.Report.{Report}
use Rattle.access_types.specs.declared.report.Report.TheVariants as reports
use Rattle.litmus_semantics.specs.Layout.{memory_at_first}
use Rattle.executions.specs.execution.Reports.{reported}
use Rattle.executions.specs.execution.Run.{IsOfProgram, Run}
use Rattle.executions.specs.execution.Execution.{Execution}
use Rattle.executions.specs.execution.Observed.{OutcomeAt, history_of, outcomes_of}
use Rattle.slot_table.specs.declared.records.Record.{Record}

-- the tickets name two accesses of the program, the setter's first, which race in the history that the
-- list tells; the setter doesn't count as marked
pub record NamesRace {run : Run} {records : List Record} (list : Execution run records)
    (setter_ticket finder_ticket : ℕ) : Type 0 where
  pub setter : Access
  pub finder : Access
  pub setter_is : IsOfProgram run setter
  pub finder_is : IsOfProgram run finder
  pub setter_named : setter_ticket ≡ ticket_number setter
  pub finder_named : finder_ticket ≡ ticket_number finder
  pub race : TrueRace run.rules.plain_writes_atomic (history_of list) setter finder
  pub unmarked : ¬ CountedAsMarked run.rules.plain_writes_atomic (history_of list) setter

-- the ticket names an access of the program whose bytes changed so under its watch
pub record NamesOrigin {run : Run} {records : List Record} (list : Execution run records)
    (ticket old new : ℕ) : Type 0 where
  pub access : Access
  pub access_is : IsOfProgram run access
  pub named : ticket ≡ ticket_number access
  pub changed : ChangedUnderWatch (memory_at_first run.places run.program.variables)
      (history_of list) access old new

-- a report of two sides names a true race, and one of unknown origin bytes that changed
abbrev pub IsTrueReport : {run : Run} {records : List Record} → Execution run records → Report → Type 0
IsTrueReport list (reports.Two setter finder seen) = NamesRace list setter finder
IsTrueReport list (reports.Unknown ticket old new) = NamesOrigin list ticket old new

-- the report is that of an outcome of the list
pub record IsOfOutcome {run : Run} {records : List Record} (list : Execution run records)
    (report : Report) : Type 0 where
  pub came : OutcomeAt
  pub told : Contains (outcomes_of list) came
  pub is : reported came.access came.outcome ≡ Some report
