-- Its machine is that of the program that is made ready.
use Rattle.std.proofs.Common.{◌≡◌, ◌≤◌, ◌∙◌, ◌*◌, [], ℕ, List, arith, length, refl, subst, sym, vec_capacity}
use Rattle.std.proofs.lemmas.Grind.{get_or_default_zero}
use Rattle.std.proofs.lemmas.List.{length-map}
use Rattle.access_types.specs.declared.report.Report.{Report}
use Rattle.litmus_step.proofs.AccessLemmas.{all_begun, begun_at}
use Rattle.litmus_step.specs.Kept.{accesses_kept}
use Rattle.litmus_step.specs.Runs.{tasks_of}
use Rattle.litmus_syntax.specs.Views.{task_of}
use Rattle.runner.proofs.StartLemmas.{first_led}
use Rattle.runner.proofs.first.TaskStart.found.Goals as goal
use Rattle.runner.specs.Led.{IsLed}
use Rattle.runner.specs.Terms.{run_by}
use Rattle.slot_table.specs.declared.records.Record.{Record}
use Rattle.task_log.specs.Keeps.{Keeps}

pub first_task-requires-clause-limits : goal.first_task-requires-clause-limits
first_task-requires-clause-limits g c = c.requires.terms.can.limits

pub first_task-requires-clause-ready : goal.first_task-requires-clause-ready
first_task-requires-clause-ready g c = (c.args.terms.settings.now, c.requires.terms.ready)

pub first_task-requires-clause-there : goal.first_task-requires-clause-there
first_task-requires-clause-there g c =
    let count : tasks_of (run_by c.args.terms) ≡ length c.args.terms.program.now.tasks = length-map c.args.terms.program.now.tasks task_of in
    omega (arith, c.requires.there, count)

-- there is room for as many accesses as the task can begin, and no step is made
pub runs-requires-clause-seated : goal.runs-requires-clause-seated
runs-requires-clause-seated g c κs within =
    let it = c.args.self in
    let run = run_by c.args.terms in
    let start = c.requires.start in
    let accesses : List ℕ = c.args.terms.prepared.now.accesses.items in
    let are = c.requires.terms.ready.accesses in
    let all = all_begun run accesses are in
    let many : c.index-accesses.result.now ≡ accesses_kept run it.number =
    c.index-accesses.ensures ∙ get_or_default_zero accesses it.number c.index-accesses.result.now (omega (arith, all, c.requires.there))
    ∙ begun_at run accesses are it.number in
    let led = first_led run it.number c.in_ok-run.run' c.in_ok-log.log (vec_capacity c.in_ok-reports.reports) c.requires.terms.list
    (c.in_ok-run.ensures.led c.args.terms.settings.now c.requires.terms.ready)
    (subst (λ (n : ℕ). Keeps n (9 * n) [] c.in_ok-log.log) many c.in_ok-log.ensures) in
    record {
      there = c.requires.there;
      number = refl;
      table = start.table;
      own = start.own;
      led = subst (λ (own : List Record). IsLed run it.number own c.in_ok-run.run' c.in_ok-log.log c.in_ok-reports.reports.items
          (vec_capacity c.in_ok-reports.reports)) (sym start.no_record)
          (subst (λ (reports : List Report). IsLed run it.number [] c.in_ok-run.run' c.in_ok-log.log reports
          (vec_capacity c.in_ok-reports.reports)) (sym c.in_ok-reports.ensures.empty) led);
      room = subst (λ (n : ℕ). 9 * n ≤ vec_capacity c.in_ok-reports.reports) many c.in_ok-reports.ensures.room;
    }
