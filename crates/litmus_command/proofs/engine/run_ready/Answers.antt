-- the run that was made is the one that is left
use Rattle.std.proofs.Common.{◌≡◌, ◌∙◌, [], Bool, Err, IsTrue, ap, arith, false, inl, inr, length, refl, subst, sym, true}
use Rattle.std.proofs.lemmas.List.{length-map}
use Rattle.litmus_command.proofs.AskedLemmas.{seen_so}
use Rattle.litmus_command.proofs.ResultLemmas.{err_holds, items_if_some, no_error, stuck_is_other}
use Rattle.litmus_command.proofs.engine.run_ready.Goals as goal
use Rattle.schedule_search.specs.Again.{tasks_known}
use Rattle.litmus_command.specs.Engine.{ComesToEnd, GetsStuck, StopsReady}
use Rattle.litmus_step.specs.Runs.{run_of, tasks_of}
use Rattle.litmus_step.specs.Steps.{tasks_in}
use Rattle.litmus_step.specs.Turns.{known_of, point}
use Rattle.litmus_syntax.specs.Views.{task_of}
use Rattle.prepared_program.specs.program_sites.Prepared.{sites_in}
use Rattle.prepared_program.specs.declared.program_sites.error.RunError.TheVariants.{BadSchedule, OutOfMemory, Stuck}
use Rattle.run_output.specs.declared.error.EngineError.TheVariants.{Run}
use Rattle.prepared_program.specs.step_schedule.Order.{IsOrder}
use Rattle.prepared_program.specs.step_schedule.Schedule.{entries_of, names_stranger}

is_false : (said : Bool) → (IsTrue said → ⊥) → said ≡ false
is_false true isnt = absurd (isnt refl)
is_false false isnt = refl

pub returns-clause-leaves : goal.returns-clause-leaves
returns-clause-leaves c =
    let first = c.args.world.now in
    let last = c.run.new.self in
    let sites = sites_in c.args.prepared.now in
    let run = run_of c.args.program.now c.args.settings.now sites in
    let begins = c.requires.begins in
    let all = begins.tasks.all in
    let same : tasks_in first ≡ tasks_of run = omega (arith, all) in
    let runs = c.run.ensures.runs (λ bad. no_error _ _ _ c.in_ok-run.was bad) in
    let asked = runs.asked run [] begins in
    let leads = asked.1 in
    let over = c.in_ok-run.ensures.over run asked.0 leads in
    let written = c.in_ok-written.ensures in
    let trace = c.in_ok-written.written.trace in
    let many : tasks_in first ≡ length c.args.program.now.tasks = same ∙ length-map c.args.program.now.tasks task_of in
    record {
      fit = c.requires.ready.fit;
      known = subst (λ tasks. names_stranger tasks (entries_of c.args.schedule.now) ≡ false) many
          (is_false (names_stranger (tasks_in first) (entries_of c.args.schedule.now))
          (λ named. no_error _ _ _ c.in_ok-run.was (c.run.ensures.bad_schedule.1 named)));
      sites = sites;
      records = asked.0;
      stepped = record {
        list = leads.list;
        order = runs.order;
        in_order = subst (λ tasks. IsOrder (entries_of c.args.schedule.now) tasks runs.order) same runs.in_order;
        asked = seen_so (known_of run) (tasks_known run) (λ at. at.records)
            (λ task before after made. (made.0, made.1, made.2, made.3.list))
            (λ task at. ((λ ended. ended), (λ ended. ended))) (λ task at stuck. stuck) (tasks_of run) (point [] first) runs.order
            (point asked.0 last) asked.2;
      };
      over = over;
      output_is = written.output asked.0 leads;
      trace_is = items_if_some _ trace (written.trace run asked.0 leads);
      accepted = items_if_some _ trace (written.accepted run asked.0 leads over refl refl c.requires.ready.few_slots);
      raced_is = written.raced run asked.0 leads;
      headline = c.run.ensures.headline run asked.0 leads;
    }

pub returns-in_err-run-clause-stops : goal.returns-in_err-run-clause-stops
returns-in_err-run-clause-stops c =
    let error = c.in_err-run.field-0.0 in
    let program = c.args.program.now in
    let settings = c.args.settings.now in
    let entries = entries_of c.args.schedule.now in
    let first = c.args.world.now in
    let last = c.run.new.self in
    let sites = sites_in c.args.prepared.now in
    let run = run_of program settings sites in
    let begins = c.requires.begins in
    let all = begins.tasks.all in
    let same : tasks_in first ≡ tasks_of run = omega (arith, all) in
    let many : tasks_in first ≡ length program.tasks = same ∙ length-map program.tasks task_of in
    let schedule : error ≡ BadSchedule → StopsReady program settings entries (Run error) = λ is.
    let bad = c.run.ensures.bad_schedule.0 (c.in_err-run.was ∙ ap Err is) in
    subst (λ e. StopsReady program settings entries (Run e)) (sym is) (subst (λ tasks. IsTrue (names_stranger tasks entries)) many bad) in
    let stuck : (task : _) × (error ≡ Stuck task) → StopsReady program settings entries (Run error) = λ is.
    let is_stuck = c.in_err-run.was ∙ ap Err is.1 in
    let runs = c.run.ensures.runs (λ bad. stuck_is_other _ _ is_stuck bad) in
    let asked = runs.asked run [] begins in
    let leads = asked.1 in
    let at = c.run.ensures.stuck _ is_stuck in
    let held : GetsStuck program settings entries is.0 = record {
      sites = sites;
      records = asked.0;
      stepped = record {
        list = leads.list;
        order = runs.order;
        in_order = subst (λ tasks. IsOrder entries tasks runs.order) same runs.in_order;
        asked = seen_so (known_of run) (tasks_known run) (λ at. at.records)
            (λ task before after made. (made.0, made.1, made.2, made.3.list))
            (λ task at. ((λ ended. ended), (λ ended. ended))) (λ task at stuck. stuck) (tasks_of run) (point [] first) runs.order
            (point asked.0 last) asked.2;
      };
      there = (let here = leads.tasks.all in let below = at.0 in omega (arith, here, below));
      stuck = at.1 run asked.0 leads;
    } in
    subst (λ e. StopsReady program settings entries (Run e)) (sym is.1) held in
    err_holds (StopsReady program settings entries) c.from_residual.result (Run error) c.from_residual.ensures.1
    (elim c.in_err-run.ensures.errors [ inl is ↦ schedule is | inr is ↦ stuck is ])

pub returns-in_err-written-clause-stops : goal.returns-in_err-written-clause-stops
returns-in_err-written-clause-stops c =
    let program = c.args.program.now in
    let settings = c.args.settings.now in
    let entries = entries_of c.args.schedule.now in
    let first = c.args.world.now in
    let last = c.run.new.self in
    let sites = sites_in c.args.prepared.now in
    let run = run_of c.args.program.now c.args.settings.now sites in
    let begins = c.requires.begins in
    let all = begins.tasks.all in
    let same : tasks_in first ≡ tasks_of run = omega (arith, all) in
    let runs = c.run.ensures.runs (λ bad. no_error _ _ _ c.in_ok-run.was bad) in
    let asked = runs.asked run [] begins in
    let leads = asked.1 in
    let over = c.in_ok-run.ensures.over run asked.0 leads in
    let ended : ComesToEnd program settings entries = record {
      sites = sites;
      records = asked.0;
      stepped = record {
        list = leads.list;
        order = runs.order;
        in_order = subst (λ tasks. IsOrder (entries_of c.args.schedule.now) tasks runs.order) same runs.in_order;
        asked = seen_so (known_of run) (tasks_known run) (λ at. at.records)
            (λ task before after made. (made.0, made.1, made.2, made.3.list))
            (λ task at. ((λ ended. ended), (λ ended. ended))) (λ task at stuck. stuck) (tasks_of run) (point [] first) runs.order
            (point asked.0 last) asked.2;
      };
      over = over;
    } in
    err_holds (StopsReady program settings entries) c.from_residual-in_err-written.result (Run OutOfMemory)
    c.from_residual-in_err-written.ensures.1 ended
