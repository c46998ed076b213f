-- By the parts of the list, of which only the reports stand otherwise.
use Rattle.std.proofs.Common.{◌≡◌, ◌≤◌, ◌==◌, ◌*◌, ◌∙◌, ℕ, List, ap, arith, count_by, flat_map, inl, inr, length, refl, subst, sym}
use Rattle.std.proofs.lemmas.List.{length-append}
use Rattle.accepted_traces.proofs.Parted.{all_reported, counts_add, measures_alike, none_reported}
use Rattle.accepted_traces.proofs.Sections.{hold_all}
use Rattle.accepted_traces.proofs.laws.law_traces_in_either_order_are_true.Goals as goal
use Rattle.accepted_traces.specs.Parts.{AreParts, ReportFits}
use Rattle.log_correctness.specs.Setters.{AreReports}
use Rattle.executions.specs.execution.Reports.{reports_of}
use Rattle.report_text.specs.TraceText.{second, written_lines}
use Rattle.report_text.specs.Truth.{is_pair, race_in, unknown_in}
use Rattle.access_types.specs.declared.report.Report.{Report}

pub returns-clause-parts : goal.returns-clause-parts
returns-clause-parts c = λ run records list limits slots few ended accesses arms takes are all of.
    let tasks : ℕ = length run.program.tasks in
    let p = c.law_traces_of_ended_runs_are_true.ensures.parts run records list limits slots few ended accesses arms takes are in
    let none = none_reported c.law_a_task_reports_its_own.ensures run records list in
    let by : AreReports list all → AreParts run.rules.slots run.rules.layout accesses arms takes all = λ stand. record {
      few_slots = p.few_slots;
      slots_limit = p.slots_limit;
      each_access = p.each_access;
      others = p.others;
      each_arm = p.each_arm;
      each_take = p.each_take;
      each_report = all_reported list (ReportFits accesses) tasks all stand p.each_report;
      takings = p.takings;
      races = λ pair. p.races pair ∙ sym (measures_alike (λ reports. count_by (is_pair pair) (flat_map race_in reports)) refl
          (counts_add (is_pair pair) race_in) tasks (reports_of list) all stand none);
      origins = λ ticket. p.origins ticket ∙ sym (measures_alike (λ reports. count_by (λ m. ticket == m) (flat_map unknown_in reports)) refl
          (counts_add (λ m. ticket == m) unknown_in) tasks (reports_of list) all stand none);
      few_accesses = p.few_accesses;
      few_arms = p.few_arms;
      few_takes = p.few_takes;
      few_reports =
          let same : length all ≡ length (reports_of list) =
          measures_alike (λ (reports : List Report). length reports) refl (λ xs ys. length-append xs ys) tasks (reports_of list) all stand none in
          let few_of : length (reports_of list) ≤ 16 * 9216 = p.few_reports in
          omega (arith, same, few_of);
    } in
    elim of [
      | inl same ↦ subst (λ (reports : List Report). AreParts run.rules.slots run.rules.layout accesses arms takes reports) (sym same) p
      | inr stand ↦ by stand
    ]

pub returns-clause-accepted : goal.returns-clause-accepted
returns-clause-accepted c = λ run records list limits slots few ended accesses arms takes are all of.
    let is = hold_all accesses arms takes all in
    record {
      head = second run.rules.slots run.rules.layout;
      all = written_lines accesses arms takes all;
      is_true = c.law_parts_make_a_true_trace.ensures run.rules.slots run.rules.layout accesses arms takes all
          (returns-clause-parts c run records list limits slots few ended accesses arms takes are all of);
      counts_are = rw (is.accesses_are, is.arms_are, is.takes_are, is.reports_are) refl;
    }
