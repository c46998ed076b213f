-- A text that is read is spelled so, with its head.
use Rattle.std.proofs.Common.{◌≡◌, ◌∙◌, ◌≤◌, ℕ, List, [], ◌∷◌, Option, Some, length, map, refl, sym, ap, subst}
use Rattle.std.specs.Prelude.{All, Err, IfErr, IfOk, Ok, Result}
use Rattle.litmus_syntax.specs.Views.{program_of}
use Rattle.litmus_lex.specs.declared.cursor.Refusal.{Refusal}
use Rattle.litmus_lex.specs.declared.cursor.Refusal.TheVariants.{Limit, OutOfMemory, Syntax, Unsupported}
use Rattle.litmus_lex.specs.declared.token.Part.{Part}
use Rattle.litmus_lex.specs.declared.token.Part.TheVariants.{Init}
use Rattle.litmus_lex.specs.declared.token.SourcePosition.{SourcePosition}
use Rattle.litmus_lex.specs.declared.token.Token.{Token}
use Rattle.litmus_lex.specs.declared.token.Token.TheVariants as tokens
use Rattle.litmus_lex.specs.Head.{IsHead}
use Rattle.litmus_lex.specs.Token.{Terminal, terminal_of}
use Rattle.litmus_lex.specs.Tokens.{Placed, TokensAt}
use Rattle.litmus_syntax.specs.Limits.{file_bytes}
use Rattle.litmus_syntax.specs.Tree as tree
use Rattle.litmus_lex.specs.declared.cursor.Spot.{Spot}
use Rattle.litmus_lex.specs.Front.{symbol_of_spot, symbol_of_token}
use Rattle.litmus_lex.specs.Spots.{AreSpots, AreTokensFrom}
use Rattle.litmus_lex.specs.Words.{Symbol, symbol_of}
use Rattle.litmus_expression.proofs.Taken.{same_given}
use Rattle.litmus_parse.specs.declared.answer.Reading.{Reading}
use Rattle.litmus_parse.specs.Grammar.{Grammar, SpellsProgram, symbol_at}
use Rattle.litmus_parse.specs.Refused.{HasUtf8Names, Refuses}
use Rattle.litmus_parse.specs.Text.{IsTextByte}
use Rattle.litmus_parse.specs.TextReader.{program_at}
use Rattle.litmus_parse.proofs.TextComplete.{text_complete}
use Rattle.litmus_parse.proofs.Texts.{text_read}

terminal_symbol : (token : Token) (t : Terminal) → terminal_of token ≡ Some t → symbol_of t ≡ symbol_of_token token
terminal_symbol (tokens.Name bytes) t e = ap (λ (u : Terminal). symbol_of u) (sym (same_given _ t e))
terminal_symbol (tokens.Number value) t e = ap (λ (u : Terminal). symbol_of u) (sym (same_given _ t e))
terminal_symbol (tokens.Sign s) t e = ap (λ (u : Terminal). symbol_of u) (sym (same_given _ t e))
terminal_symbol tokens.TooLarge t e = ap (λ (u : Terminal). symbol_of u) (sym (same_given _ t e))
terminal_symbol tokens.Stray t e = ap (λ (u : Terminal). symbol_of u) (sym (same_given _ t e))
terminal_symbol tokens.Unclosed t e = ap (λ (u : Terminal). symbol_of u) (sym (same_given _ t e))
terminal_symbol tokens.End t e = absurd cc

-- spots have the symbols of their tokens
pub spots_symbols : (spots : List Spot) (found : List Placed) → AreSpots spots found → map symbol_of_spot spots ≡ map symbol_at found
spots_symbols [] [] are = refl
spots_symbols [] (t ∷ found) are = absurd are
spots_symbols (s ∷ spots) [] are = absurd are
spots_symbols (s ∷ spots) (t ∷ found) are =
    ap (λ (y : Symbol). y ∷ map symbol_of_spot spots) (sym (terminal_symbol s.token t.terminal are.0))
    ∙ ap (λ (l : List Symbol). symbol_at t ∷ l) (spots_symbols spots found are.1.1)

pub text_is_spelled : (text : List ℕ) (place : SourcePosition) (name : List ℕ) (spots : List Spot) (p : tree.Program) → length text ≤ file_bytes
    → All IsTextByte text
    → place.part ≡ Init → IsHead text name place.at → AreTokensFrom text place spots → ((found : List Placed) × AreSpots spots found)
    → program_at name (map symbol_of_spot spots) ≡ Some p → SpellsProgram text p
text_is_spelled text place name spots p size bytes init head are found read =
    let whole = text_read name (map symbol_of_spot spots) p read in
    record {
      tokens = found.0;
      size = size;
      bytes = bytes;
      lexed = record {
        at = place.at;
        head = subst (λ (n : List ℕ). IsHead text n place.at) (sym whole.0) head;
        body = subst (λ (part : Part). TokensAt text part place.at found.0) init ((are found.0).1 found.1);
      };
      parsed = subst (λ (l : List Symbol). Grammar l p) (spots_symbols spots found.0 found.1) whole.1;
    }

-- what a text is read as, if it is read
pub result_is_spelled : (text : List ℕ) (place : SourcePosition) (title name : List ℕ) (spots left : List Spot) (result : Result Reading Refusal)
    → length text ≤ file_bytes → All IsTextByte text → place.part ≡ Init → IsHead text title place.at → AreTokensFrom text place spots
    → ((found : List Placed) × AreSpots spots found) → name ≡ title → left ≡ spots
    → IfOk result (λ r. program_at name (map symbol_of_spot left) ≡ Some (program_of r.program))
    → IfOk result (λ r. SpellsProgram text (program_of r.program))
result_is_spelled text place title name spots left (Ok r) size bytes init head are found named stand reads =
    text_is_spelled text place name spots (program_of r.program) size bytes init
    (subst (λ (n : List ℕ). IsHead text n place.at) (sym named) head) are found
    (subst (λ (l : List Spot). program_at name (map symbol_of_spot l) ≡ Some (program_of r.program)) stand reads)
result_is_spelled text place title name spots left (Err refusal) size bytes init head are found named stand reads = tt

-- ---- the other way round

-- a text that spells a program is read as it
pub spelled_is_read : (text : List ℕ) (place : SourcePosition) (title name : List ℕ) (spots left : List Spot) → place.part ≡ Init
    → ((other : List ℕ) (at : ℕ) → IsHead text other at → (title ≡ other) × (place.at ≡ at)) → AreTokensFrom text place spots → name ≡ title
    → left ≡ spots → (p : tree.Program) → SpellsProgram text p → program_at name (map symbol_of_spot left) ≡ Some p
spelled_is_read text place title name spots left init only are named stand p spells =
    let lexed = spells.lexed in
    let heads = only p.name lexed.at lexed.head in
    let body : TokensAt text place.part place.at spells.tokens =
    subst (λ (part : Part). TokensAt text part place.at spells.tokens) (sym init)
    (subst (λ (at : ℕ). TokensAt text Init at spells.tokens) (sym heads.1) lexed.body) in
    let same = spots_symbols spots spells.tokens ((are spells.tokens).0 body) in
    ap (λ (l : List Spot). program_at name (map symbol_of_spot l)) stand
    ∙ ap (λ (n : List ℕ). program_at n (map symbol_of_spot spots)) (named ∙ heads.0)
    ∙ ap (λ (l : List Symbol). program_at p.name l) same
    ∙ text_complete (map symbol_at spells.tokens) p spells.parsed

-- a refusal that isn't want of memory can't be
pub memory_alone : (refusal : Refusal) → ((refusal ≡ OutOfMemory → ⊥) → ⊥) → refusal ≡ OutOfMemory
memory_alone OutOfMemory never = refl
memory_alone (Syntax at fault expected) never = absurd (never (λ e. cc))
memory_alone (Unsupported at unread expected) never = absurd (never (λ e. cc))
memory_alone (Limit at excess) never = absurd (never (λ e. cc))

-- what a text that spells a program is answered with
pub complete_if : (result : Result Reading Refusal) (read : Option tree.Program) (p : tree.Program) → read ≡ Some p → HasUtf8Names p
    → IfErr result (λ refusal. Refuses refusal read) → IfErr result (λ refusal. refusal ≡ OutOfMemory)
complete_if (Ok found) read p is names refuses = tt
complete_if (Err refusal) read p is names refuses = memory_alone refusal (λ other. refuses other p is names)
