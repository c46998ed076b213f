-- by what is found of the world
use Rattle.std.proofs.Common.{◌≡◌, ◌∙◌, ◌&&◌, ◌==◌, Bool, IfSome, List, None, Option, Some, Vec, ap, false, length, not, refl, subst, sym, true, ℕ}
use Rattle.std.specs.Global.{Global}
use Rattle.access_types.specs.Sites.{AccessMap}
use Rattle.access_types.specs.declared.report.Report.{Report}
use Rattle.executions.specs.execution.Reports.{reports_of}
use Rattle.litmus_command.proofs.engine.render_run.Goals as goal
use Rattle.litmus_step.specs.Runs.{run_of}
use Rattle.prepared_program.specs.program_sites.Prepared.{sites_in}
use Rattle.report_text.specs.printed_reports.Printed.{printed_reports}
use Rattle.run_output.specs.Output.{output_text}
use Rattle.run_output.specs.Traces.{IsTraceOf}

-- what is so of reports is so of these
if_some_same : (P : List Report → List ℕ → Type 0) (one other : List Report) (trace : Option (Vec ℕ Global)) → one ≡ other
    → IfSome trace (λ bytes. P one bytes.items) → IfSome trace (λ bytes. P other bytes.items)
if_some_same P one other None same holds = tt
if_some_same P one other (Some bytes) same holds = subst (λ (reports : List Report). P reports bytes.items) same holds

and_true : (b : Bool) → (b && true) ≡ b
and_true true = refl
and_true false = refl

-- the reports that are printed, of the accesses of the program
are_printed : (unknown : Bool) (map_of sites : AccessMap) (own reports : List Report) → map_of ≡ sites → own ≡ reports
    → printed_reports unknown map_of own ≡ printed_reports unknown sites reports
are_printed unknown map_of sites own reports of are =
    ap (λ all. printed_reports unknown all own) of ∙ ap (printed_reports unknown sites) are

pub returns-clause-output : goal.returns-clause-output
returns-clause-output c = λ records leads.
    let sites = sites_in c.args.prepared.now in
    let run = run_of c.args.program.now c.args.settings.now sites in
    let found = c.in_ok-found.found in
    let printed : c.as_slice-shown.result.now ≡ printed_reports c.args.unknown sites (reports_of leads.list) =
    c.as_slice-shown.ensures.value ∙ c.in_ok-printed.ensures
    ∙ are_printed c.args.unknown c.sites.result.now sites c.reports-reports.result.now (reports_of leads.list) c.sites.ensures
    (c.reports-reports.ensures.told run records leads) in
    record {
      found = found;
      found_of = c.in_ok-found.ensures c.args.settings.now sites records leads c.requires.ready;
      spelled = c.in_ok-output.ensures
          ∙ ap (λ (map_of : AccessMap). output_text map_of c.as_slice-shown.result.now found) c.sites-2.ensures
          ∙ ap (λ (reports : List Report). output_text sites reports found) printed;
    }

pub returns-clause-trace : goal.returns-clause-trace
returns-clause-trace c = λ run records leads.
    if_some_same (λ reports bytes. IsTraceOf c.args.settings.now leads.list reports bytes) c.args.world.now.reports.items _ c.in_ok-trace.trace
    (sym c.reports-reports.ensures.reports ∙ c.reports-reports.ensures.told run records leads)
    (c.in_ok-trace.ensures.written run records leads)

pub returns-clause-accepted : goal.returns-clause-accepted
returns-clause-accepted c = λ run records leads ended slots layout few.
    c.in_ok-trace.ensures.accepted run records leads ended slots layout few

pub returns-clause-raced : goal.returns-clause-raced
returns-clause-raced c = λ run records leads.
    let sites = sites_in c.args.prepared.now in
    let printed : c.as_slice-shown.result.now ≡ printed_reports c.args.unknown sites (reports_of leads.list) =
    c.as_slice-shown.ensures.value ∙ c.in_ok-printed.ensures
    ∙ are_printed c.args.unknown c.sites.result.now sites c.reports-reports.result.now (reports_of leads.list) c.sites.ensures
    (c.reports-reports.ensures.told run records leads) in
    ap not c.is_empty.ensures ∙ ap (λ (reports : List Report). not (length reports == 0)) printed

pub returns-clause-traced : goal.returns-clause-traced
returns-clause-traced c = c.in_ok-trace.ensures.wanted ∙ and_true c.args.traced
