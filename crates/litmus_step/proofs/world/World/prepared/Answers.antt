-- The list without a step leads to the words and the machines that are made first, and nothing is kept yet.
use Rattle.std.proofs.Common.{◌∙◌, [], refl, subst, sym, vec_capacity}
use Rattle.std.proofs.lemmas.Grind.{merely}
use Rattle.access_types.specs.Sites.{AccessMap}
use Rattle.litmus_syntax.specs.Views.{program_of}
use Rattle.litmus_step.proofs.AccessLemmas.{all_begun, each_kept, few_begun, few_tasks, room_for}
use Rattle.litmus_step.proofs.MakeLemmas.{first_kept, first_points, first_world}
use Rattle.litmus_step.proofs.world.World.prepared.Goals as goal
use Rattle.litmus_step.specs.Leads.{LeadsToAll}
use Rattle.prepared_program.specs.program_sites.Prepared.{sites_in}
use Rattle.litmus_step.specs.Runs.{run_of}

pub first_logs-requires : goal.first_logs-requires
first_logs-requires c =
    few_begun (program_of c.args.program.now) c.as_slice-accesses.result.now c.requires.limits
    (c.as_slice-accesses.ensures.value ∙ c.requires.ready.1.accesses)

pub all_accesses-requires-clause-few : goal.all_accesses-requires-clause-few
all_accesses-requires-clause-few c =
    few_tasks (program_of c.args.program.now) c.as_slice-accesses.result.now c.requires.limits
    (c.as_slice-accesses.ensures.value ∙ c.requires.ready.1.accesses)

pub all_accesses-requires-clause-each : goal.all_accesses-requires-clause-each
all_accesses-requires-clause-each c =
    few_begun (program_of c.args.program.now) c.as_slice-accesses.result.now c.requires.limits
    (c.as_slice-accesses.ensures.value ∙ c.requires.ready.1.accesses)

pub returns-clause-leads : goal.returns-clause-leads
returns-clause-leads c = λ settings prepared.
    let run = run_of c.args.program.now settings (sites_in c.args.prepared.now) in
    let can = c.law_runs_begin.ensures.can run settings.places.items c.requires.limits refl prepared.fit prepared.some_slots prepared.turns in
    let list = c.law_runs_begin.ensures.list run can prepared.sites in
    let are = c.as_slice-accesses.ensures.value ∙ prepared.accesses in
    let space = room_for run c.as_slice-accesses.result.now are c.all_accesses.result (vec_capacity c.in-Ok-first_reports.reports)
    c.all_accesses.ensures.is c.in-Ok-first_reports.ensures.room in
    subst (λ (sites : AccessMap). LeadsToAll (run_of c.args.program.now settings sites) [] c.in_ok-board.board c.in-Ok.tasks.items 0
    c.in-Ok-first_logs.logs.items c.in-Ok-first_reports.reports.items (vec_capacity c.in-Ok-first_reports.reports)) (sym c.in-Ok-try_clone.ensures)
    (first_world run c.in_ok-board.board c.in-Ok.tasks.items c.in-Ok-first_logs.logs.items c.in-Ok-first_reports.reports.items
    (vec_capacity c.in-Ok-first_reports.reports)
    can list (c.in_ok-board.ensures settings (sites_in c.args.prepared.now) prepared) (c.in-Ok.ensures.led settings prepared)
    (first_kept c.law_steps_are_kept.ensures.none run list c.in-Ok-first_logs.logs.items c.in-Ok-first_reports.reports.items
    (vec_capacity c.in-Ok-first_reports.reports)
    (c.in-Ok-first_logs.ensures.all ∙ all_begun run c.as_slice-accesses.result.now are)
    (each_kept run c.as_slice-accesses.result.now are c.in-Ok-first_logs.logs.items c.in-Ok-first_logs.ensures.each) c.in-Ok-first_reports.ensures.empty space)
    (first_points c.law_steps_are_kept.ensures.none run list c.in-Ok.tasks.items c.in-Ok.ensures.points))

pub invariant_of-result : goal.invariant_of-result
invariant_of-result c =
    let settings = c.requires.ready.0 in
    let prepared = c.requires.ready.1 in
    let run = run_of c.args.program.now settings (sites_in c.args.prepared.now) in
    let can = c.law_runs_begin.ensures.can run settings.places.items c.requires.limits refl prepared.fit prepared.some_slots prepared.turns in
    let list = c.law_runs_begin.ensures.list run can prepared.sites in
    let are = c.as_slice-accesses.ensures.value ∙ prepared.accesses in
    let space = room_for run c.as_slice-accesses.result.now are c.all_accesses.result (vec_capacity c.in-Ok-first_reports.reports)
    c.all_accesses.ensures.is c.in-Ok-first_reports.ensures.room in
    record {
      led = merely (record {
        run = run;
        records = [];
        leads = first_world run c.in_ok-board.board c.in-Ok.tasks.items c.in-Ok-first_logs.logs.items c.in-Ok-first_reports.reports.items
            (vec_capacity c.in-Ok-first_reports.reports)
            can list (c.in_ok-board.ensures settings (sites_in c.args.prepared.now) prepared) (c.in-Ok.ensures.led settings prepared)
            (first_kept c.law_steps_are_kept.ensures.none run list c.in-Ok-first_logs.logs.items c.in-Ok-first_reports.reports.items
            (vec_capacity c.in-Ok-first_reports.reports)
            (c.in-Ok-first_logs.ensures.all ∙ all_begun run c.as_slice-accesses.result.now are)
            (each_kept run c.as_slice-accesses.result.now are c.in-Ok-first_logs.logs.items c.in-Ok-first_logs.ensures.each) c.in-Ok-first_reports.ensures.empty space)
            (first_points c.law_steps_are_kept.ensures.none run list c.in-Ok.tasks.items c.in-Ok.ensures.points);
      });
    }
