-- by run, by task, and by run again
use Rattle.std.proofs.Common.{◌≡◌, ◌∙◌, ℕ, List, Result, Vec, ap, arith, length, map, refl, subst, sym}
use Rattle.std.proofs.lemmas.List.{length-map}
use Rattle.std.proofs.lemmas.Option.{slice_get_within}
use Rattle.std.specs.Global.{Global}
use Rattle.prepared_program.specs.program_sites.Prepared.{sites_in}
use Rattle.prepared_program.specs.declared.program_sites.error.RunError.{RunError}
use Rattle.litmus_step.specs.Runs.{run_of, tasks_of}
use Rattle.litmus_syntax.specs.Views.{task_of}
use Rattle.litmus_syntax.specs.declared.program.Task.{Task}
use Rattle.runner.proofs.BatchLemmas.{all_outcomes, all_starts, at_each}
use Rattle.runner.proofs.ColumnLemmas.{item_there}
use Rattle.runner.proofs.TurnLemmas.{Came}
use Rattle.runner.proofs.run.run_batch.Goals as goal
use Rattle.runner.specs.Columns.{AreColumns}
use Rattle.runner.specs.Starts.{AreAllOutcomes, AreAllStarts}
use Rattle.runner.specs.Terms.{AreGivenEach}
use Rattle.runner.specs.declared.first.TaskStart.{TaskStart}
use Rattle.runner.specs.declared.seated.TaskResult.{TaskResult}
use Rattle.shared_table.specs.Seats.{Opened}

pub columns_of-requires : goal.columns_of-requires
columns_of-requires g c =
    let ready = c.requires.ready in
    let run = run_of c.args.program.now c.args.settings.now (sites_in c.args.prepared.now) in
    let can = c.law_runs_begin.ensures.can run c.args.settings.now.places.items c.requires.limits refl ready.fit ready.some_slots ready.turns in
    let given : AreGivenEach c.args.program.now c.args.settings.now c.args.prepared.now c.in_ok-tables.tables.items =
    c.in_ok-tables.ensures.given c.args.settings.now ready can (c.law_runs_begin.ensures.list run can ready.sites) in
    let starts = c.in_ok-tables.ensures.starts in
    let count : tasks_of run ≡ length c.args.program.now.tasks = length-map c.args.program.now.tasks task_of in
    at_each (λ (row : Vec TaskStart Global). row.items) (λ (row : List TaskStart). length row ≡ length c.as_slice.result.now) c.in_ok-tables.rows.items
    (λ at row is.
    let opened = item_there c.in_ok-tables.tables.items at
    (let within = slice_get_within (map (λ (row : Vec TaskStart Global). row.items) c.in_ok-tables.rows.items) at row is in
    omega (arith, within, starts.all)) in
    (starts.each at opened.0 row opened.1 is).all
    ∙ ((given at opened.0 opened.1).tasks ∙ (count ∙ ap (λ (tasks : List Task). length tasks) (sym c.as_slice.ensures))))

pub on_threads_from-requires-clause-given : goal.on_threads_from-requires-clause-given
on_threads_from-requires-clause-given g c κs within =
    let ready = c.requires.ready in
    let run = run_of c.args.program.now c.args.settings.now (sites_in c.args.prepared.now) in
    let can = c.law_runs_begin.ensures.can run c.args.settings.now.places.items c.requires.limits refl ready.fit ready.some_slots ready.turns in
    let given : AreGivenEach c.args.program.now c.args.settings.now c.args.prepared.now c.in_ok-tables.tables.items =
    c.in_ok-tables.ensures.given c.args.settings.now ready can (c.law_runs_begin.ensures.list run can ready.sites) in
    subst (AreGivenEach c.args.program.now c.args.settings.now c.args.prepared.now) (sym c.as_slice-2.ensures.value) given

pub on_threads_from-requires-clause-starts : goal.on_threads_from-requires-clause-starts
on_threads_from-requires-clause-starts g c κs within =
    let run = run_of c.args.program.now c.args.settings.now (sites_in c.args.prepared.now) in
    let count : tasks_of run ≡ length c.args.program.now.tasks = length-map c.args.program.now.tasks task_of in
    let wide : length c.as_slice.result.now ≡ tasks_of run = ap (λ (tasks : List Task). length tasks) c.as_slice.ensures ∙ sym count in
    let rows = map (λ (row : Vec TaskStart Global). row.items) c.in_ok-tables.rows.items in
    let columns = map (λ (column : Vec TaskStart Global). column.items) c.in_ok-columns.columns.items in
    subst (λ (tables : List Opened). AreAllStarts tables (tasks_of run) c.in_ok-starts.starts.items) (sym c.as_slice-2.ensures.value)
    (all_starts c.in_ok-tables.tables.items (tasks_of run) rows columns c.in_ok-starts.starts.items c.in_ok-tables.ensures.starts
    (subst (λ (n : ℕ). AreColumns n rows columns) wide c.in_ok-columns.ensures) c.in_ok-starts.ensures)

pub columns_of-requires-2 : goal.columns_of-requires-2
columns_of-requires-2 g c =
    let outcomes = c.in_ok-outcomes.ensures.outcomes in
    at_each (λ (came : Came). came.items) (λ (column : List (Result TaskResult RunError)). length column ≡ length c.args.turns.now) c.in_ok-outcomes.outcomes.items
    (λ at column is. (outcomes.each at column is).all
    ∙ (ap (λ (tables : List Opened). length tables) c.as_slice-2.ensures.value ∙ c.in_ok-tables.ensures.many))

pub results_of-requires-clause-given : goal.results_of-requires-clause-given
results_of-requires-clause-given g c =
    let ready = c.requires.ready in
    let run = run_of c.args.program.now c.args.settings.now (sites_in c.args.prepared.now) in
    let can = c.law_runs_begin.ensures.can run c.args.settings.now.places.items c.requires.limits refl ready.fit ready.some_slots ready.turns in
    let given : AreGivenEach c.args.program.now c.args.settings.now c.args.prepared.now c.in_ok-tables.tables.items =
    c.in_ok-tables.ensures.given c.args.settings.now ready can (c.law_runs_begin.ensures.list run can ready.sites) in
    given

pub results_of-requires-clause-outcomes : goal.results_of-requires-clause-outcomes
results_of-requires-clause-outcomes g c =
    let run = run_of c.args.program.now c.args.settings.now (sites_in c.args.prepared.now) in
    let columns = map (λ (came : Came). came.items) c.in_ok-outcomes.outcomes.items in
    all_outcomes run c.in_ok-tables.tables.items (length c.args.turns.now) columns (map (λ (row : Came). row.items) c.in_ok-rows.rows.items)
    (subst (λ (tables : List Opened). AreAllOutcomes run tables (tasks_of run) columns) c.as_slice-2.ensures.value c.in_ok-outcomes.ensures.outcomes)
    c.in_ok-rows.ensures (sym c.in_ok-tables.ensures.many)
