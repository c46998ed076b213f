-- what is left of the program is left of its text
use Rattle.litmus_command.proofs.ResultLemmas.{err_holds, map_ok, no_sink_stops, refused_of}
use Rattle.litmus_command.specs.Engine.{IsRefused}
use Rattle.run_output.specs.declared.error.EngineError.TheVariants.{Text}
use Rattle.prepared_program.specs.step_schedule.Schedule.{entries_of}
use Rattle.litmus_parse.specs.Read.{IsReadAs}
use Rattle.litmus_command.proofs.engine.run_text.Goals as goal

pub returns-clause-leaves : goal.returns-clause-leaves
returns-clause-leaves c =
    let read : IsReadAs c.args.text.now c.in_ok-program.program = record {
      spelled = c.in_ok-program.ensures.spelled;
      limits = c.in_ok-program.ensures.keeps_limits;
    } in
    map_ok c.run_program.result (λ written leaves. record { program = c.in_ok-program.program; read = read; leaves = leaves })
    c.run_program.ensures.leaves

pub returns-clause-refused : goal.returns-clause-refused
returns-clause-refused c =
    let read : IsReadAs c.args.text.now c.in_ok-program.program = record {
      spelled = c.in_ok-program.ensures.spelled;
      limits = c.in_ok-program.ensures.keeps_limits;
    } in
    refused_of c.args.text.now c.in_ok-program.program c.args.settings.now (entries_of c.args.schedule.now) c.run_program.result read
    c.run_program.ensures.stops

pub returns-clause-unwritten : goal.returns-clause-unwritten
returns-clause-unwritten c =
    no_sink_stops c.in_ok-program.program c.args.settings.now (entries_of c.args.schedule.now) c.run_program.result c.run_program.ensures.stops

-- a text that spells a program is refused for want of memory alone
pub returns-in_err-program-clause-refused : goal.returns-in_err-program-clause-refused
returns-in_err-program-clause-refused c =
    let error = c.in_err-program.field-0.0 in
    err_holds (IsRefused c.args.text.now c.args.settings.now (entries_of c.args.schedule.now)) c.from_residual.result (Text error)
    c.from_residual.ensures.1 (λ program spells. (c.in_err-program.ensures.complete program spells).1)
