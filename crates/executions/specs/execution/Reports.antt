-- The reports of an execution, in the order of the verdicts.
use Rattle.std.specs.Prelude.{List, Option, None, Some, filter_map}
use Rattle.access_types.specs.Access.{Access}
use Rattle.access_types.specs.Ticket.{ticket_number}
use Rattle.access_types.specs.declared.report.Report.{Report}
use Rattle.access_types.specs.declared.report.Report.TheVariants as reports
use Rattle.executions.specs.execution.Run.{Run}
use Rattle.executions.specs.execution.Execution.{Execution}
use Rattle.executions.specs.execution.Observed.{outcomes_by}
use Rattle.setup_access.specs.declared.outcome.Outcome.{Outcome}
use Rattle.setup_access.specs.declared.outcome.Outcome.TheVariants as outcomes
use Rattle.slot_table.specs.declared.records.Record.{Record}

-- the report that an outcome of checking an access is, if it is one
abbrev pub reported : Access → Outcome → Option Report
reported a (outcomes.Report pair seen) =
    Some (reports.Two pair.setter pair.finder seen)
reported a (outcomes.Unknown old new) = Some (reports.Unknown (ticket_number a) old new)
reported a outcome = None

-- the reports that an execution tells by some of its records, the latest record first
abbrev pub reports_by : {run : Run} {all : List Record} → Execution run all → List Record → List Report
reports_by list records = filter_map (λ came. reported came.access came.outcome) (outcomes_by list records)

abbrev pub reports_of : {run : Run} {all : List Record} → Execution run all → List Report
reports_of {all = all} list = reports_by list all
