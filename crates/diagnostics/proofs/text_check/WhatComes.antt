-- From what is told of a program, or of a refusal, to what comes of the check of its text.
use Rattle.std.proofs.Common.{◌≡◌, Err, IfErr, IfOk, List, Ok, Result, inr, subst, sym, ℕ}
use Rattle.litmus_parse.specs.Grammar.{SpellsProgram}
use Rattle.litmus_parse.specs.Read.{IsReadAs}
use Rattle.litmus_syntax.specs.Tree as tree
use Rattle.litmus_syntax.specs.declared.error.ParseError.{ParseError}
use Rattle.litmus_syntax.specs.declared.error.ParseError.TheVariants as errors
use Rattle.litmus_syntax.specs.declared.program.Program.{Program}
use Rattle.prepared_program.specs.declared.program_sites.error.RunError.{RunError}
use Rattle.prepared_program.specs.declared.program_sites.settings.Settings.{Settings}
use Rattle.diagnostics.specs.text_check.Check.{IsCheckOf, IsRefusalOf, IsSaidOf, IsToldOf, StopsCheck, StopsProgram}
use Rattle.diagnostics.specs.declared.text_check.checked.Check.{Check}
use Rattle.diagnostics.specs.declared.text_check.checked.Check.TheVariants.{Misplaced, Reads, Refused}

module _ (name text : List ℕ) (settings : Settings) where
  of_told : (program : Program) (check : Check) → IsReadAs text program → IsToldOf name text settings program check
      → IsCheckOf name text settings check
  of_told program (Reads tables printed warnings) read told = (program, read, told)
  of_told program (Misplaced why) read told = (program, read, told)
  of_told program (Refused error why) read told = absurd told

  pub told_check : (program : Program) (result : Result Check RunError) → IsReadAs text program
      → IfOk result (IsToldOf name text settings program) → IfOk result (IsCheckOf name text settings)
  told_check program (Ok check) read told = of_told program check read told
  told_check program (Err error) read told = tt

  pub told_stops : (program : Program) (result : Result Check RunError) → IsReadAs text program
      → IfErr result (StopsProgram settings) → IfErr result (StopsCheck text settings)
  told_stops program (Ok check) read stops = tt
  told_stops program (Err error) read stops = inr (program, read, stops)

  of_refusal : (error : ParseError) (check : Check)
      → ((program : tree.Program) → SpellsProgram text program → error ≡ errors.OutOfMemory)
      → IsRefusalOf name text error check → IsCheckOf name text settings check
  of_refusal error (Refused said why) complete refusal = (
    (λ program spelled. refusal.1.no_want (complete program spelled)),
    subst (λ (e : ParseError). IsSaidOf name text e why.items) (sym refusal.0) refusal.1,
  )
  of_refusal error (Reads tables printed warnings) complete refusal = absurd refusal
  of_refusal error (Misplaced why) complete refusal = absurd refusal

  pub refusal_check : (error : ParseError) (result : Result Check RunError)
      → ((program : tree.Program) → SpellsProgram text program → error ≡ errors.OutOfMemory)
      → IfOk result (IsRefusalOf name text error) → IfOk result (IsCheckOf name text settings)
  refusal_check error (Ok check) complete refusal = of_refusal error check complete refusal
  refusal_check error (Err other) complete refusal = tt
