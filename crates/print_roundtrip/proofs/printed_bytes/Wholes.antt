-- The whole text of a program: its name, its initialization block, its tasks and its condition.
use Rattle.std.proofs.Common.{◌≡◌, ◌≤◌, ℕ, List, [], ◌∷◌, length, map, refl, subst, sym}
use Rattle.std.specs.Prelude.{All}
use Rattle.litmus_lex.specs.declared.token.Part.TheVariants.{Between}
use Rattle.litmus_lex.specs.Head.{IsText}
use Rattle.litmus_lex.specs.Tokens.{Placed}
use Rattle.litmus_syntax.specs.PrintedForm.{condition_line, printed, proposition_text}
use Rattle.litmus_syntax.specs.Tree.{Program}
use Rattle.litmus_syntax.specs.Limits.{file_bytes}
use Rattle.litmus_lex.specs.Words.{Symbol}
use Rattle.litmus_parse.specs.Grammar.{Grammar, SpellsProgram, symbol_at}
use Rattle.litmus_parse.specs.Text.{IsTextByte}
use Rattle.print_roundtrip.specs.printed_texts.PrintedCondition.{proposition_symbols, quantifier_symbols}
use Rattle.litmus_expression.specs.Followed.{Differ}
use Rattle.litmus_expression.specs.Names.{Names}
use Rattle.print_roundtrip.specs.printed_texts.PrintedProgram.{Nests, program_symbols}
use Rattle.print_roundtrip.proofs.printed_texts.Programs.{program_printed}
use Rattle.print_roundtrip.proofs.printed_texts.Wholes.{names_are, own_names}
use Rattle.print_roundtrip.specs.printed_bytes.Programs.{IsSpelled}
use Rattle.print_roundtrip.specs.printed_bytes.Reads.{Reads}
use Rattle.print_roundtrip.proofs.printed_bytes.Heads.{text_is}
use Rattle.print_roundtrip.proofs.printed_bytes.Items.{initialization_reads}
use Rattle.print_roundtrip.proofs.printed_bytes.Lexed.{blank_reads, end_reads}
use Rattle.print_roundtrip.proofs.printed_bytes.Propositions.{propositions_read, quantifiers_read}
use Rattle.print_roundtrip.proofs.printed_bytes.Spelled.{program_spelled}
use Rattle.print_roundtrip.proofs.printed_bytes.Tasks.{tasks_read}

condition_reads : (p : Program) → IsSpelled p
    → Reads Between (condition_line p.quantifier (proposition_text p.variables p.tasks p.condition))
    (quantifier_symbols p.quantifier (proposition_symbols p.variables p.tasks p.condition []))
condition_reads p is =
    quantifiers_read p.quantifier refl (blank_reads 32 refl
    (propositions_read p.variables p.tasks p.condition (10 ∷ []) is.condition refl (blank_reads 10 refl (end_reads Between))))

pub program_read : (p : Program) → IsSpelled p
    → (tokens : List Placed) × IsText (printed p) p.name tokens × (map symbol_at tokens ≡ program_symbols p)
    × All IsTextByte (printed p)
program_read p is =
    text_is p.name _ (program_symbols p) is.name refl
    (initialization_reads p.variables is.variables (tasks_read p.variables p.tasks 0 _ is.tasks (condition_reads p is)))

-- the printed form of a program that a text spells spells it too
pub printed_spells : (text : List ℕ) (p : Program) → SpellsProgram text p → Nests p
    → length (printed p) ≤ file_bytes → SpellsProgram (printed p) p
printed_spells text p spells nests few =
    let symbols : List Symbol = map symbol_at spells.tokens in
    let g = spells.parsed in
    let read = program_read p (program_spelled text p spells) in
    let names = names_are symbols p g in
    let own = subst (λ (l : Names). Differ l) (sym (own_names g.declared)) names.differ in
    record {
      tokens = read.0;
      size = few;
      bytes = read.3;
      lexed = read.1;
      parsed = subst (λ (l : List Symbol). Grammar l p) (sym read.2)
          (program_printed symbols p g names.differ names.few own names.whole nests);
    }
