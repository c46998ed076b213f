-- The reports of a run on threads name accesses of its program.
use Rattle.std.proofs.Common.{◌≡◌, ℕ, zero, suc, All, Bool, IsSome, List, Option, None, Some, refl, subst, sym}
use Rattle.std.proofs.lemmas.List.Elements.{All-append, All-filter, All-nil, All-weaker}
use Rattle.std.specs.FinMap as map
use Rattle.access_types.specs.Access.{Access}
use Rattle.access_types.specs.Sites.{AccessMap}
use Rattle.access_types.specs.Ticket.{ticket_number}
use Rattle.access_types.specs.declared.report.Report.{Report}
use Rattle.access_types.specs.declared.report.Report.TheVariants.{Two, Unknown}
use Rattle.litmus_step.proofs.FirstLemmas.{of_task}
use Rattle.litmus_step.specs.Runs.{run_of, tasks_of}
use Rattle.prepared_program.specs.declared.program_sites.settings.Settings.{Settings}
use Rattle.litmus_syntax.specs.Views.{program_of}
use Rattle.litmus_syntax.specs.declared.program.Program.{Program}
use Rattle.prepared_program.specs.program_layout.Places.{places_of}
use Rattle.prepared_program.specs.program_sites.Sites.{AreSitesOf}
use Rattle.report_text.specs.printed_reports.Printed.{is_printed, printed_reports}
use Rattle.report_text.specs.ReportOf.{NamesAccesses}
use Rattle.soundness.specs.Reported.{IsTrueReport}
use Rattle.log_correctness.specs.Setters.{is_by, reports_by}
use Rattle.executions.specs.execution.Reports.{reports_of}
use Rattle.executions.specs.execution.Run.{IsOfProgram, Run}
use Rattle.executions.specs.execution.Execution.{Execution}
use Rattle.log_correctness.specs.Lists.{ByTask}
use Rattle.runner.specs.Result.{IsRunOnce}
use Rattle.runner.specs.declared.result.RunResult.{RunResult}
use Rattle.slot_table.specs.declared.records.Record.{Record}

there : {X : Type 0} (found : Option X) (x : X) → found ≡ Some x → IsSome found
there None x is = absurd (cc)
there (Some y) x is = refl

-- what a true report names is there
module _ {run : Run} {records : List Record} (list : Execution run records) (map_of : AccessMap)
    (are : AreSitesOf run.program run.places map_of) where
  named_access : (ticket : ℕ) (a : Access) → IsOfProgram run a → ticket ≡ ticket_number a → IsSome (map.get map_of ticket)
  named_access ticket a of named =
      there (map.get map_of ticket) a (subst (λ (t : ℕ). map.get map_of t ≡ Some a) (sym named) (are.all a (of_task run a of)))

  names : (report : Report) → IsTrueReport list report → NamesAccesses map_of report
  names (Two setter finder seen) is =
      (named_access setter is.setter is.setter_is is.setter_named, named_access finder is.finder is.finder_is is.finder_named)
  names (Unknown ticket old new) is = named_access ticket is.access is.access_is is.named

  all_names : (reports : List Report) → All (IsTrueReport list) reports → All (NamesAccesses map_of) reports
  all_names reports are_true = All-weaker (IsTrueReport list) (NamesAccesses map_of) names reports are_true

-- what holds of all reports holds of those of each task, one task after the other
by_task : (P : Report → Type 0) (all : List Report) → All P all → (tasks : ℕ) (reports : List Report)
    → ByTask (λ task own. own ≡ reports_by task all) tasks reports → All P reports
by_task P all holds zero reports none = subst (All P) (sym none) (All-nil P)
by_task P all holds (suc tasks) reports more =
    subst (All P) (sym more.2)
    (All-append P more.0 more.1 (by_task P all holds tasks more.0 more.3)
    (subst (All P) (sym more.4) (All-filter (is_by tasks) P all holds)))

pub reports_are_named : (program : Program) (settings : Settings) (map_of : AccessMap) (result : RunResult)
    → AreSitesOf (program_of program) (places_of settings.places.items) map_of → IsRunOnce program settings result
    → All (NamesAccesses map_of) result.reports.items
reports_are_named program settings map_of result are once =
    by_task (NamesAccesses map_of) (reports_of once.list)
    (all_names once.list map_of are (reports_of once.list) once.is_of.headline.reports)
    (tasks_of (run_of program settings once.sites)) result.reports.items once.is_of.reports

-- so are those that are printed
pub printed_are_named : (unknown : Bool) (map_of : AccessMap) (reports : List Report) → All (NamesAccesses map_of) reports
    → All (NamesAccesses map_of) (printed_reports unknown map_of reports)
printed_are_named unknown map_of reports named = All-filter (is_printed unknown map_of) (NamesAccesses map_of) reports named
