-- The trace is that of the steps which the world made, up to the end of all tasks.
use Rattle.std.proofs.Common.{◌≡◌, ◌∙◌, [], Err, Ok, OnOk, Result, arith, false, inl, subst, sym}
use Rattle.std.specs.Result.{is_err}
use Rattle.executions.specs.execution.Execution.{AllHaveEnded}
use Rattle.litmus_step.specs.Runs.{run_of, tasks_of}
use Rattle.litmus_step.specs.Steps.{LeadsTo, tasks_in}
use Rattle.litmus_step.specs.Turns.{known_of, point}
use Rattle.litmus_step.specs.Turns as turns
use Rattle.prepared_program.specs.declared.program_sites.error.RunError.{RunError}
use Rattle.prepared_program.specs.declared.program_sites.error.RunError.TheVariants.{BadSchedule}
use Rattle.prepared_program.specs.program_sites.Prepared.{sites_in}
use Rattle.prepared_program.specs.step_schedule.Order.{IsOrder, Runs}
use Rattle.prepared_program.specs.step_schedule.Schedule.{entries_of}
use Rattle.run_output.specs.Traces.{IsTraceOf}
use Rattle.race_page.proofs.page_findings.pictures.trace_by.Goals as goal

not_refused : (result : Result (Unit {0}) RunError) → is_err result ≡ false → result ≡ Err BadSchedule → ⊥
not_refused (Ok done) fine bad = cc
not_refused (Err error) fine bad = cc

done_so : (result : Result (Unit {0}) RunError) (P : Type 0) → is_err result ≡ false → OnOk result P → P
done_so (Ok done) P fine held = held
done_so (Err error) P fine held = cc

pub returns : goal.returns
returns c =
    let program = c.args.program.now in
    let settings = c.args.settings.now in
    let sites = sites_in c.args.prepared.now in
    let run = run_of program settings sites in
    let entries = entries_of c.args.schedule.now in
    let first = c.in_ok-world.world in
    let last = c.run.new.self in
    let fine : is_err c.run.result ≡ false = sym c.is_err.ensures.value ∙ c.if-is_err.false in
    let begins : LeadsTo run [] first =
    subst (λ found. LeadsTo (run_of program settings found) [] first) c.in_ok-world.ensures.sites
    (c.in_ok-world.ensures.leads settings c.requires.ready) in
    let all = begins.tasks.all in
    let same : tasks_in first ≡ tasks_of run = omega (arith, all) in
    let runs = c.run.ensures.runs (not_refused c.run.result fine) in
    let asked = runs.asked run [] begins in
    let records = asked.0 in
    let leads = asked.1 in
    let over : AllHaveEnded run records = done_so c.run.result (turns.AllHaveEnded last) fine c.run.ensures.over run records leads in
    let ran : Runs (known_of run) (tasks_of run) entries (point [] first) (point records last) = record {
      order = runs.order;
      in_order = subst (λ tasks. IsOrder entries tasks runs.order) same runs.in_order;
      asked = asked.2;
      over = inl (λ task below. over task);
    } in
    record {
      records = records;
      list = leads.list;
      runs = c.law_schedules_lead_to_their_lists.ensures.worlds run entries records first last ran;
      over = over;
      trace_is = subst (λ reports. IsTraceOf settings leads.list reports c.in_ok-trace.trace.items)
          (sym c.reports-reports.ensures.reports ∙ c.reports-reports.ensures.told run records leads)
          (c.in_ok-trace.ensures.written run records leads);
    }
