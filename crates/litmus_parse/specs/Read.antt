-- What a text is read as.
use Rattle.std.specs.Prelude.{ℕ, List}
use Rattle.litmus_parse.specs.Grammar.{SpellsProgram}
use Rattle.litmus_syntax.specs.Limits.{KeepsLimits}
use Rattle.litmus_syntax.specs.Views.{program_of}
use Rattle.litmus_syntax.specs.declared.program.Program.{Program}

-- a text is read as a program: it spells it, and the program keeps the limits
pub record IsReadAs (text : List ℕ) (program : Program) : Type 0 where
  pub spelled : SpellsProgram text (program_of program)
  pub limits : KeepsLimits (program_of program)
