-- The names of a program that a text spells are UTF-8, and a text has no more tokens than bytes.
use Rattle.std.proofs.Common.{◌≡◌, ◌<◌, ◌≤◌, ℕ, zero, suc, List, [], ◌∷◌, ◌++◌, Option, Some, None, drop, inl, inr, length, map, sym, ap, subst, arith}
use Rattle.std.specs.Prelude.{All}
use Rattle.std.specs.Str.{IsAscii, IsUtf8}
use Rattle.std.proofs.lemmas.List.{length-append, length-drop, length-map}
use Rattle.std.proofs.lemmas.Str.{IsUtf8-from_ascii}
use Rattle.std.proofs.lemmas.Str.Ascii.{IsAscii-cons, IsAscii-nil}
use Rattle.litmus_syntax.specs.declared.program.Variable.{Variable}
use Rattle.litmus_syntax.specs.Tree as tree
use Rattle.litmus_lex.specs.declared.sign.Sign.{Sign}
use Rattle.litmus_lex.specs.declared.sign.Sign.TheVariants.{OpenBrace}
use Rattle.litmus_lex.specs.declared.token.Part.{Part}
use Rattle.litmus_lex.specs.declared.token.Part.TheVariants.{Init}
use Rattle.litmus_lex.specs.Gap.{IsUnclosed}
use Rattle.litmus_lex.specs.Head.{IsText}
use Rattle.litmus_lex.specs.Sign.{sign_bytes}
use Rattle.litmus_lex.specs.Token as terminals
use Rattle.litmus_lex.specs.Token.{IsName, IsNumber, Spells, Terminal}
use Rattle.litmus_lex.specs.Tokens.{AreTokens, Placed, StartsAt, part_after}
use Rattle.litmus_lex.specs.declared.words.Word.{Word}
use Rattle.litmus_lex.specs.Words.{symbol_of, symbol_of_name, word_of}
use Rattle.litmus_parse.specs.Grammar.{SpellsProgram, symbol_at}
use Rattle.litmus_parse.specs.Text.{IsTextByte}
use Rattle.litmus_parse.proofs.NamesSpelled.{Any, OfSymbol, Spell, spelled_holds}

-- ---- bytes

-- each byte is ASCII
abbrev Plain : List ℕ → Type 0
Plain [] = Unit {0}
Plain (b ∷ bytes) = (b < 128) × Plain bytes

text_byte : (b : ℕ) → IsTextByte b → b < 128
text_byte b (inl is) = omega arith
text_byte b (inr (inl is)) = omega arith
text_byte b (inr (inr (inl is))) = omega arith
text_byte b (inr (inr (inr is))) = let le = is.1 in omega arith

plain_text : (bytes : List ℕ) → All IsTextByte bytes → Plain bytes
plain_text [] all = tt
plain_text (b ∷ bytes) all = (text_byte b (all 0 b (omega arith)), plain_text bytes (λ k d lt. all (suc k) d (omega arith)))

plain_first : (xs ys : List ℕ) → Plain (xs ++ ys) → Plain xs
plain_first [] ys plain = tt
plain_first (x ∷ xs) ys plain = (plain.0, plain_first xs ys plain.1)

plain_rest : (xs ys : List ℕ) → Plain (xs ++ ys) → Plain ys
plain_rest [] ys plain = plain
plain_rest (x ∷ xs) ys plain = plain_rest xs ys plain.1

plain_drop : (n : ℕ) (bytes : List ℕ) → Plain bytes → Plain (drop n bytes)
plain_drop zero bytes plain = plain
plain_drop (suc n) [] plain = tt
plain_drop (suc n) (b ∷ bytes) plain = plain_drop n bytes plain.1

ascii_of : (bytes : List ℕ) → Plain bytes → IsAscii bytes
ascii_of [] plain = IsAscii-nil
ascii_of (b ∷ bytes) plain = IsAscii-cons b bytes plain.0 (ascii_of bytes plain.1)

utf8_of : (bytes : List ℕ) → Plain bytes → IsUtf8 bytes
utf8_of bytes plain = IsUtf8-from_ascii bytes (ascii_of bytes plain)

-- ---- tokens

of_word : (bytes : List ℕ) (o : Option Word) → IsUtf8 bytes → OfSymbol IsUtf8 Any (symbol_of_name bytes o)
of_word bytes None is = is
of_word bytes (Some w) is = tt

of_terminal : (t : Terminal) (spelled rest : List ℕ) → Spells t spelled rest → Plain spelled → OfSymbol IsUtf8 Any (symbol_of t)
of_terminal (terminals.name bytes) spelled rest spells plain =
    of_word bytes (word_of bytes) (utf8_of bytes (subst (λ (l : List ℕ). Plain l) (sym spells.0) plain))
of_terminal (terminals.number value) spelled rest spells plain = tt
of_terminal (terminals.sign s) spelled rest spells plain = tt
of_terminal terminals.too_large spelled rest spells plain = tt
of_terminal terminals.stray spelled rest spells plain = tt
of_terminal terminals.unclosed spelled rest spells plain = tt

of_tokens : (part : Part) (at : ℕ) (bytes : List ℕ) (tokens : List Placed) → Plain bytes → AreTokens part at bytes tokens
    → Spell IsUtf8 Any (map symbol_at tokens)
of_tokens part at bytes [] plain are = tt
of_tokens part at bytes (token ∷ tokens) plain are =
    let first = are.0 in
    let whole = subst (λ (l : List ℕ). Plain l) first.whole plain in
    let behind = plain_rest first.gap (first.spelled ++ first.rest) whole in (
      of_terminal token.terminal first.spelled first.rest first.spells (plain_first first.spelled first.rest behind),
      of_tokens (part_after part token.terminal) _ first.rest tokens (plain_rest first.spelled first.rest behind) are.1,
    )

-- the names of a program that a text spells are UTF-8
pub names_are_utf8 : (text : List ℕ) (p : tree.Program) → SpellsProgram text p
    → All (λ (v : Variable). IsUtf8 v.name) p.variables × All (λ (t : tree.Task). All IsUtf8 t.registers) p.tasks × IsUtf8 p.name
names_are_utf8 text p spells =
    let plain = plain_text text spells.bytes in
    let head = spells.lexed.head in
    let title = head.title in
    let held = spelled_holds IsUtf8 Any (map symbol_at spells.tokens) p (λ n is. tt) spells.parsed
    (of_tokens Init spells.lexed.at (drop spells.lexed.at text) spells.tokens (plain_drop spells.lexed.at text plain) spells.lexed.body) in
    let titled = plain_rest head.gap head.titled (subst (λ (l : List ℕ). Plain l) head.whole plain) in
    let behind = plain_rest (67 ∷ title.blanks) (p.name ++ head.behind) (subst (λ (l : List ℕ). Plain l) title.whole titled) in
    (held.variables, held.registers, utf8_of p.name (plain_first p.name head.behind behind))

-- ---- a token has bytes

sign_some : (s : Sign) → 0 < length (sign_bytes s)
sign_some OpenBrace = omega arith
sign_some _ = omega arith

name_some : (spelled rest : List ℕ) → IsName spelled rest → 0 < length spelled
name_some [] rest is = absurd is
name_some (b ∷ spelled) rest is = omega arith

number_some : (spelled rest : List ℕ) (value : ℕ) → IsNumber spelled rest value → 0 < length spelled
number_some spelled rest value (inl hexadecimal) =
    subst (λ (l : List ℕ). 0 < length l) (sym hexadecimal.spelled) (omega arith)
number_some spelled rest value (inr decimal) = decimal.some

unclosed_some : (part : Part) (bytes : List ℕ) → IsUnclosed part bytes → 0 < length bytes
unclosed_some part [] is = absurd is
unclosed_some part (b ∷ bytes) is = omega arith

token_some : (part : Part) (t : Terminal) (spelled rest : List ℕ) → Spells t spelled rest → StartsAt part t (spelled ++ rest) → 0 < length spelled
token_some part (terminals.name bytes) spelled rest spells starts = name_some spelled rest spells.1
token_some part (terminals.number value) spelled rest spells starts = number_some spelled rest value spells.0
token_some part (terminals.sign s) spelled rest spells starts = subst (λ (l : List ℕ). 0 < length l) (sym spells.0) (sign_some s)
token_some part terminals.too_large spelled rest spells starts = number_some spelled rest spells.0 spells.1
token_some part terminals.stray spelled rest spells starts = subst (λ (l : List ℕ). 0 < length l) (sym spells.1) (omega arith)
token_some part terminals.unclosed spelled rest spells starts =
    let some = unclosed_some part (spelled ++ rest) starts in
    let none : length rest ≡ 0 = ap (λ (l : List ℕ). length l) spells in
    let n = length-append spelled rest in
    omega (arith, some, none, n)

tokens_few : (part : Part) (at : ℕ) (bytes : List ℕ) (tokens : List Placed) → AreTokens part at bytes tokens → length tokens ≤ length bytes
tokens_few part at bytes [] are = omega arith
tokens_few part at bytes (token ∷ tokens) are =
    let first = are.0 in
    let some = token_some part token.terminal first.spelled first.rest first.spells first.starts in
    let le = tokens_few (part_after part token.terminal) _ first.rest tokens are.1 in
    let whole : length bytes ≡ length (first.gap ++ (first.spelled ++ first.rest)) = ap (λ (l : List ℕ). length l) first.whole in
    let n = length-append first.gap (first.spelled ++ first.rest) in
    let m = length-append first.spelled first.rest in
    omega (arith, some, le, whole, n, m)

-- a text has no more symbols than bytes
pub symbols_few : (text name : List ℕ) (tokens : List Placed) → IsText text name tokens → length (map symbol_at tokens) ≤ length text
symbols_few text name tokens is =
    let le = tokens_few Init is.at (drop is.at text) tokens is.body in
    let n = length-drop is.at text in
    let m = length-map tokens symbol_at in
    omega (arith, le, n, m)
