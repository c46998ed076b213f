-- Processes with all their registers.
use Rattle.std.specs.Prelude.{◌≡◌, ℕ, List, [], ◌∷◌, Some, slice_get}
use Rattle.litmus_syntax.specs.declared.program.Variable.{Variable}
use Rattle.litmus_syntax.specs.Limits.{BodyKeepsLimits}
use Rattle.litmus_lex.specs.Words.{Symbol}
use Rattle.litmus_expression.specs.Names.{Names}
use Rattle.litmus_body.specs.Statements.{Statements}
use Rattle.litmus_parse.specs.Headers.{Process}
use Rattle.print_roundtrip.specs.printed_texts.PrintedNames.{AreNames}

-- a process with names that may be printed, of which some symbols spell the body
pub record Whole (variables : List Variable) (names : Names) (p : Process) : Type 0 where
  pub are : AreNames variables names p.parameters p.registers
  pub before : Names
  pub symbols : List Symbol
  pub behind : List Symbol
  pub spelled : Statements p.parameters 1 [] [] symbols p.body behind before
  pub keeps : BodyKeepsLimits p.body
  pub grown : (number : ℕ) (name : List ℕ) → slice_get before number ≡ Some name → slice_get p.registers number ≡ Some name

abbrev pub AllWhole : List Variable → Names → List Process → Type 0
AllWhole variables names [] = Unit {0}
AllWhole variables names (p ∷ ps) = Whole variables names p × AllWhole variables names ps
