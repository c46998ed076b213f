-- By the one list of all seats.
use Rattle.std.proofs.Common.{◌≡◌, ◌⊎◌, ◌∙◌, ℕ, Err, List, ap, flat_map, inl, inr, length, subst, sym}
use Rattle.std.proofs.lemmas.Result.{err_from_is_err_and}
use Rattle.prepared_program.specs.program_sites.Prepared.{sites_in}
use Rattle.litmus_step.specs.Runs.{run_of}
use Rattle.executions.specs.execution.Run.{Run}
use Rattle.runner.proofs.OutcomeLemmas.{all_are_here, at_the_table, err_holds, same_error}
use Rattle.runner.proofs.ResultLemmas.{is_of}
use Rattle.runner.proofs.together.result_of.Goals as goal
use Rattle.runner.specs.TaskResult.{IsOfThreads, calls_below}
use Rattle.runner.specs.Result.{IsRunOnce}
use Rattle.prepared_program.specs.declared.program_sites.error.RunError.{RunError}
use Rattle.prepared_program.specs.declared.program_sites.error.RunError.TheVariants.{OutOfMemory, Stuck}
use Rattle.runner.specs.declared.result.RunResult.{RunResult}
use Rattle.runner.specs.declared.seated.TaskResult.{TaskResult}
use Rattle.shared_table.specs.Given.{Given, first_words}

of_threads : (error : RunError) → ((task : ℕ) × (error ≡ Stuck task)) ⊎ (error ≡ OutOfMemory) → IsOfThreads error
of_threads error errors =
    elim errors [ inl named ↦ subst IsOfThreads (sym named.1) tt | inr memory ↦ subst IsOfThreads (sym memory) tt ]

pub returns-in_err-found-clause-errors : goal.returns-in_err-found-clause-errors
returns-in_err-found-clause-errors c =
    let run = run_of c.args.program.now c.args.settings.now (sites_in c.args.prepared.now) in
    let p = err_from_is_err_and c.from_residual.result c.from_residual.ensures.1 in
    err_holds IsOfThreads c.from_residual.result p.0 p.1
    (subst IsOfThreads (sym p.2) (of_threads c.in_err-found.field-0.0 (c.in_err-found.ensures.errors run c.args.table c.requires.outcomes)))

pub returns-in_err-found-clause-stuck : goal.returns-in_err-found-clause-stuck
returns-in_err-found-clause-stuck c = λ task is.
    let run = run_of c.args.program.now c.args.settings.now (sites_in c.args.prepared.now) in
    let p = err_from_is_err_and c.from_residual.result c.from_residual.ensures.1 in
    let named = sym p.2 ∙ same_error c.from_residual.result _ _ p.1 is in
    let stuck = c.in_err-found.was ∙ ap (λ (e : RunError). Err e) named in (
      (sites_in c.args.prepared.now),
      c.all_found.ensures.stuck run c.args.table task c.requires.outcomes stuck,
      c.all_found.ensures.smallest run c.args.table task c.requires.outcomes stuck,
    )

pub gather-requires : goal.gather-requires
gather-requires c =
    let run = run_of c.args.program.now c.args.settings.now (sites_in c.args.prepared.now) in
    at_the_table run c.args.table c.in_ok-found.found.items (c.in_ok-found.ensures.found run c.args.table c.requires.outcomes)
    c.in_ok-seats.field-0.seats.items c.in_ok-seats.ensures.seats

pub unreachable-requires : goal.unreachable-requires
unreachable-requires c =
    let run = run_of c.args.program.now c.args.settings.now (sites_in c.args.prepared.now) in
    all_are_here run c.args.table c.in_ok-found.found.items (c.in_ok-found.ensures.found run c.args.table c.requires.outcomes)
    c.in_ok-seats.field-0.seats.items c.in_ok-seats.ensures.seats
    c.law_the_written_order_keeps_the_discipline.ensures.finished c.args.table.given c.requires.given.tasks
    c.in_default.ensures.none

pub returns-clause-once : goal.returns-clause-once
returns-clause-once c =
    let sites = (sites_in c.args.prepared.now) in
    let run : Run = run_of c.args.program.now c.args.settings.now sites in
    let opened = c.args.table in
    let found : List TaskResult = c.in_ok-found.found.items in
    let given = c.requires.given in
    let parts = c.in_ok-seats.ensures in
    let same = c.in-Some.ensures.same in
    let list = c.in-Some.ensures.list in
    let result : RunResult = record {
      number = c.args.turn.number;
      logs = c.in_ok-seats.field-0.logs;
      reports = c.in_ok-reports.reports;
      registers = c.in_ok-seats.field-0.registers;
      unbalanced = c.calls_of-unbalanced.result;
      gathered = c.in-Some.gathered;
    } in
    let it = is_of c.law_a_task_reports_its_own.ensures c.law_the_headline_holds.ensures c.law_sides_of_hits_overlap.ensures run opened found result list.0 given.can
    (c.in_ok-found.ensures.found run opened c.requires.outcomes) given.list
    (same.1 ∙ parts.seats) (ap (λ (given : Given). given.tasks) same.0 ∙ given.tasks)
    (ap (λ (given : Given). first_words given) same.0 ∙ given.words) list.1 parts.logs
    (c.in_ok-reports.ensures ∙ ap (flat_map (λ (f : TaskResult). f.reports.items)) c.as_slice.ensures.value) parts.registers
    (c.calls_of-unbalanced.ensures ∙ ap (λ (all : List TaskResult). calls_below all (length all)) c.as_slice-2.ensures.value) in
    let once : IsRunOnce c.args.program.now c.args.settings.now result =
    record { sites = sites; records = list.0; list = it.0; is_of = it.1 } in
    once
