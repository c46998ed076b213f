-- What is read is what the bytes of the printed form spell, and the printed form of a program that a text spells spells
-- it.
use Rattle.std.proofs.Common.{◌≡◌, ◌∙◌, ℕ, List, sym, subst}
use Rattle.std.specs.Prelude.{IfOk}
use Rattle.litmus_syntax.specs.PrintedForm.{printed}
use Rattle.litmus_syntax.specs.Tree as tree
use Rattle.litmus_syntax.specs.Views.{program_of}
use Rattle.litmus_parse.specs.Grammar.{SpellsProgram}
use Rattle.print_roundtrip.proofs.printed_bytes.back.read_back.Goals as goal

pub returns : goal.returns
returns c =
    let bytes_are = c.as_bytes.ensures.value ∙ c.in_ok-text.ensures.printed in
    let complete = λ (other : tree.Program) (spells : SpellsProgram (printed (program_of c.args.program.now)) other).
    c.parse.ensures.complete other (subst (λ (bytes : List ℕ). SpellsProgram bytes other) (sym bytes_are) spells) in
    record {
      spelled = subst (λ (bytes : List ℕ). IfOk c.parse.result (λ again. SpellsProgram bytes (program_of again))) bytes_are
          c.parse.ensures.spelled;
      complete = complete;
      back = λ text spells nests few. complete (program_of c.args.program.now)
          (c.law_printed_programs_spell_themselves.ensures text (program_of c.args.program.now) spells nests few);
    }
