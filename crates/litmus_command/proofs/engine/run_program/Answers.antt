-- a program that is made ready begins its run
use Rattle.std.proofs.Common.{[], Err, ap, subst}
use Rattle.litmus_command.proofs.ResultLemmas.{err_holds, map_err, preparing_stops, ready_stops}
use Rattle.litmus_command.proofs.engine.run_program.Goals as goal
use Rattle.litmus_command.specs.Engine.{Stops}
use Rattle.litmus_step.specs.Runs.{run_of}
use Rattle.litmus_step.specs.Steps.{LeadsTo}
use Rattle.run_output.specs.declared.error.EngineError.TheVariants.{Run}
use Rattle.prepared_program.specs.step_schedule.Schedule.{entries_of}

pub run_ready-requires-clause-begins : goal.run_ready-requires-clause-begins
run_ready-requires-clause-begins c =
    subst (λ found. LeadsTo (run_of c.args.program.now c.args.settings.now found) [] c.in_ok-world.world) c.in_ok-world.ensures.sites
    (c.in_ok-world.ensures.leads c.args.settings.now c.in_ok-prepared.ensures.prepared)

pub returns-clause-stops : goal.returns-clause-stops
returns-clause-stops c =
    map_err c.run_ready.result (ready_stops c.args.program.now c.args.settings.now (entries_of c.args.schedule.now))
    c.run_ready.ensures.stops

pub returns-in_err-prepared-clause-stops : goal.returns-in_err-prepared-clause-stops
returns-in_err-prepared-clause-stops c =
    let error = c.in_err-prepared.field-0.0 in
    let program = c.args.program.now in
    let settings = c.args.settings.now in
    let entries = entries_of c.args.schedule.now in
    err_holds (Stops program settings entries) c.from_residual.result (Run error) c.from_residual.ensures.1
    (preparing_stops program settings entries error c.in_err-prepared.ensures.errors
    (λ is. c.in_err-prepared.ensures.bad_slots (ap Err is)) (λ is. c.in_err-prepared.ensures.bad_place.0 (ap Err is)))
