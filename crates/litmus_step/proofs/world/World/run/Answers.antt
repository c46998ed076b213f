-- By the entries, and then the rounds.
use Rattle.std.proofs.Common.{◌∙◌, sym}
use Rattle.std.proofs.lemmas.Result.{err_from_is_err_and}
use Rattle.prepared_program.specs.step_schedule.Schedule.{entries_of}
use Rattle.litmus_step.proofs.RoundLemmas.{runs_in_entries, runs_in_turn, runs_nowhere, same_error, stuck_by, stuck_in_turn}
use Rattle.litmus_step.proofs.world.World.run.Goals as goal

pub returns-in_err-nobody_is_stuck-clause-runs : goal.returns-in_err-nobody_is_stuck-clause-runs
returns-in_err-nobody_is_stuck-clause-runs c = λ other. runs_nowhere c.args.self.now (entries_of c.args.schedule.now)

pub returns-in_err-nobody_is_stuck-clause-stuck : goal.returns-in_err-nobody_is_stuck-clause-stuck
returns-in_err-nobody_is_stuck-clause-stuck c = λ task is.
    let p = err_from_is_err_and c.from_residual.result c.from_residual.ensures.1 in
    let stuck = c.in_err-nobody_is_stuck.ensures.stuck in
    let named = sym p.2 ∙ same_error c.from_residual.result _ _ p.1 is in
    stuck_by c.args.self.now c.in_err-nobody_is_stuck.field-0.0 stuck.0 task stuck.1 named stuck.2 stuck.3

pub returns-in_err-entries-clause-runs : goal.returns-in_err-entries-clause-runs
returns-in_err-entries-clause-runs c = λ other.
    runs_in_entries c.args.self.now c.entries.new.self
    (entries_of c.args.schedule.now) c.in_err-entries.field-0.0 c.in_err-entries.ensures.stops

pub returns-in_err-entries-clause-stuck : goal.returns-in_err-entries-clause-stuck
returns-in_err-entries-clause-stuck c = λ task is.
    let p = err_from_is_err_and c.from_residual-in_err-entries.result c.from_residual-in_err-entries.ensures.1 in
    let stops = c.in_err-entries.ensures.stops in
    let named = sym p.2 ∙ same_error c.from_residual-in_err-entries.result _ _ p.1 is in
    stuck_by c.entries.new.self c.in_err-entries.field-0.0 stops.task task stops.is named stops.there stops.stuck

pub returns-clause-runs : goal.returns-clause-runs
returns-clause-runs c = λ other.
    runs_in_turn c.args.self.now c.entries.new.self c.rounds.new.self (entries_of c.args.schedule.now) c.rounds.result
    c.in_ok-entries.ensures.asked.0 c.entries.ensures.tasks c.rounds.ensures.asked c.rounds.ensures.stops

pub returns-clause-stuck : goal.returns-clause-stuck
returns-clause-stuck c = λ task is.
    stuck_in_turn c.entries.new.self c.rounds.new.self c.rounds.result task c.rounds.ensures.stops is
