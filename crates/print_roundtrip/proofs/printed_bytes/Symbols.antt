-- What the tokens of bytes name and count: names that are no words, and numbers of a token.
use Rattle.std.proofs.Common.{◌≡◌, ℕ, List, [], ◌∷◌, Option, Some, None, map, refl, sym, subst}
use Rattle.litmus_lex.specs.declared.bytes.Class.{Class}
use Rattle.litmus_lex.specs.declared.bytes.Class.TheVariants.{NamePart}
use Rattle.litmus_lex.specs.declared.token.Part.{Part}
use Rattle.litmus_lex.specs.Bytes.{IsRun}
use Rattle.litmus_lex.specs.Token as terminals
use Rattle.litmus_lex.specs.Token.{IsName, Spells, Terminal}
use Rattle.litmus_lex.specs.Tokens.{AreTokens, Placed, part_after}
use Rattle.litmus_lex.specs.declared.words.Word.{Word}
use Rattle.litmus_lex.specs.Words.{symbol_of, symbol_of_name, word_of}
use Rattle.litmus_parse.specs.Grammar.{symbol_at}
use Rattle.litmus_parse.proofs.NamesSpelled.{OfSymbol, Spell}
use Rattle.print_roundtrip.specs.printed_bytes.Expressions.{IsShort}
use Rattle.print_roundtrip.specs.printed_bytes.Reads.{IsIdentifier}

-- a run is one by itself too
pub run_alone : (class : Class) (bytes rest : List ℕ) → IsRun class bytes rest → IsRun class bytes []
run_alone class [] rest is = tt
run_alone class (byte ∷ bytes) rest is = (is.0, run_alone class bytes rest is.1)

name_alone : (bytes rest : List ℕ) → IsName bytes rest → IsName bytes []
name_alone [] rest is = is
name_alone (byte ∷ bytes) rest is = (is.0, run_alone NamePart bytes rest is.1)

of_name : (bytes : List ℕ) (o : Option Word) → IsName bytes [] → word_of bytes ≡ o
    → OfSymbol IsIdentifier IsShort (symbol_of_name bytes o)
of_name bytes None is says = (is, says)
of_name bytes (Some w) is says = tt

of_terminal : (t : Terminal) (spelled rest : List ℕ) → Spells t spelled rest → OfSymbol IsIdentifier IsShort (symbol_of t)
of_terminal (terminals.name bytes) spelled rest spells =
    of_name bytes (word_of bytes)
    (name_alone bytes rest (subst (λ (l : List ℕ). IsName l rest) (sym spells.0) spells.1)) refl
of_terminal (terminals.number value) spelled rest spells = spells.1
of_terminal (terminals.sign s) spelled rest spells = tt
of_terminal terminals.too_large spelled rest spells = tt
of_terminal terminals.stray spelled rest spells = tt
of_terminal terminals.unclosed spelled rest spells = tt

pub symbols_spell : (part : Part) (at : ℕ) (bytes : List ℕ) (tokens : List Placed) → AreTokens part at bytes tokens
    → Spell IsIdentifier IsShort (map symbol_at tokens)
symbols_spell part at bytes [] are = tt
symbols_spell part at bytes (token ∷ tokens) are =
    let first = are.0 in (
      of_terminal token.terminal first.spelled first.rest first.spells,
      symbols_spell (part_after part token.terminal) _ first.rest tokens are.1,
    )
