-- The name that isn't UTF-8 is one of those.
use Rattle.std.proofs.Common.{◌≡◌, All, map}
use Rattle.std.specs.Str.{IsUtf8}
use Rattle.litmus_lex.specs.declared.cursor.Refusal.TheVariants.{OutOfMemory}
use Rattle.litmus_parse.specs.Entries.{entry_of}
use Rattle.litmus_parse.specs.Variables.{variables_in}
use Rattle.litmus_parse.specs.VariableReader.{name_of}
use Rattle.litmus_parse.proofs.DeclarationRefusals.{declared_there, err_holds}
use Rattle.litmus_parse.proofs.declaration.variables_of.Goals as goal

pub returns-in_err-variable-clause-err : goal.returns-in_err-variable-clause-err
returns-in_err-variable-clause-err c =
    err_holds (λ refusal. All (λ variable. IsUtf8 variable.name) (variables_in (map name_of c.args.all.now) (map entry_of c.args.all.now))
    → refusal ≡ OutOfMemory) c.from_residual.result c.in_err-variable.field-0.0 c.from_residual.ensures.1
    (λ named. c.in_err-variable.ensures.err
    (declared_there c.loop-all.all.now c.loop-all.variables.items _ _ c.in-len1-up.len_at_least c.loop-all.invariant named))
