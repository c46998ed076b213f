-- what is left of the program's runs is left of those of its text
use Rattle.run_stats.proofs.MadeLemmas.{err_holds, map_ok, refused_of}
use Rattle.litmus_parse.specs.Read.{IsReadAs}
use Rattle.run_output.specs.declared.error.EngineError.TheVariants.{Text}
use Rattle.run_stats.specs.Errors.{IsRefused}
use Rattle.run_stats.proofs.runs.run_text_with.Goals as goal

pub returns-clause-leaves : goal.returns-clause-leaves
returns-clause-leaves g c =
    let read : IsReadAs c.args.text.now c.in_ok-program.program = record {
      spelled = c.in_ok-program.ensures.spelled;
      limits = c.in_ok-program.ensures.keeps_limits;
    } in
    map_ok c.run_often.result (λ left leave. record { program = c.in_ok-program.program; read = read; leave = leave })
    c.run_often.ensures.leaves

pub returns-clause-refused : goal.returns-clause-refused
returns-clause-refused g c =
    let read : IsReadAs c.args.text.now c.in_ok-program.program = record {
      spelled = c.in_ok-program.ensures.spelled;
      limits = c.in_ok-program.ensures.keeps_limits;
    } in
    refused_of c.args.times.keep_going c.args.text.now c.in_ok-program.program c.args.settings.now c.run_often.result read
    c.run_often.ensures.stops

-- a text that spells a program is refused for want of memory alone
pub returns-in_err-program-clause-refused : goal.returns-in_err-program-clause-refused
returns-in_err-program-clause-refused g c =
    let error = c.in_err-program.field-0.0 in
    err_holds (IsRefused c.args.times.keep_going c.args.text.now c.args.settings.now) c.from_residual.result (Text error)
    c.from_residual.ensures.1 (λ program spells. (c.in_err-program.ensures.complete program spells).1)
