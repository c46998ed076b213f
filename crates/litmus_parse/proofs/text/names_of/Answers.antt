-- The name that isn't UTF-8 is one of those.
use Rattle.std.proofs.Common.{◌≡◌, All, map}
use Rattle.std.specs.Str.{IsUtf8}
use Rattle.litmus_lex.specs.declared.cursor.Refusal.TheVariants.{OutOfMemory}
use Rattle.litmus_lex.specs.Front.{now}
use Rattle.litmus_parse.proofs.DeclarationRefusals.{err_holds}
use Rattle.litmus_parse.proofs.Refusals.{name_there}
use Rattle.litmus_parse.proofs.text.names_of.Goals as goal

pub returns-in_err-name_of-clause-err : goal.returns-in_err-name_of-clause-err
returns-in_err-name_of-clause-err c =
    err_holds (λ refusal. All IsUtf8 (map now c.args.all.now) → refusal ≡ OutOfMemory) c.from_residual.result c.in_err-name_of.field-0.0
    c.from_residual.ensures.1
    (λ named. c.in_err-name_of.ensures.err
    (name_there c.loop-all.all.now c.loop-all.names.items _ _ c.in-len1-up.len_at_least c.loop-all.invariant named))
