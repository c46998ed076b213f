-- As its variables are made.
use Rattle.std.proofs.Common.{◌≡◌, All, IfErr, List, map, subst}
use Rattle.std.specs.Str.{IsUtf8}
use Rattle.litmus_lex.specs.declared.cursor.Refusal.TheVariants.{OutOfMemory}
use Rattle.litmus_parse.specs.declared.declaration.Declared.{Declared}
use Rattle.litmus_parse.specs.Entries.{entry_of}
use Rattle.litmus_parse.specs.Variables.{variables_in}
use Rattle.litmus_parse.specs.VariableReader.{name_of}
use Rattle.litmus_parse.proofs.declaration.Declarations.variables.Goals as goal

pub returns-clause-err : goal.returns-clause-err
returns-clause-err c =
    subst (λ (ds : List Declared). IfErr c.variables_of.result (λ refusal. All (λ variable. IsUtf8 variable.name)
    (variables_in (map name_of ds) (map entry_of ds)) → refusal ≡ OutOfMemory)) c.deref.ensures.value c.variables_of.ensures.err
