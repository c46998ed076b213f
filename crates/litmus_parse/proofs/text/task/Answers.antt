-- As its registers are named.
use Rattle.std.proofs.Common.{◌≡◌, All, Bor, List, map, subst, sym, ℕ}
use Rattle.std.specs.Str.{IsUtf8}
use Rattle.litmus_lex.specs.declared.cursor.Refusal.TheVariants.{OutOfMemory}
use Rattle.litmus_lex.specs.Front.{now}
use Rattle.litmus_parse.proofs.DeclarationRefusals.{err_holds}
use Rattle.litmus_parse.proofs.text.task.Goals as goal

pub returns-in_err-names_of-clause-err : goal.returns-in_err-names_of-clause-err
returns-in_err-names_of-clause-err c =
    err_holds (λ refusal. All IsUtf8 (map now c.args.process.now.registers.items) → refusal ≡ OutOfMemory)
    c.from_residual-in_err-names_of.result c.in_err-names_of.field-0.0 c.from_residual-in_err-names_of.ensures.1
    (λ named. c.in_err-names_of.ensures.err
    (subst (λ (ns : List (Bor (List ℕ))). All IsUtf8 (map now ns)) (sym c.deref-2.ensures.value) named))
