-- The symbols of the printed initialization block spell it, with the numbers and the values that the variables have.
use Rattle.std.proofs.Common.{inl, inr, ◌≡◌, ◌∙◌, ◌-◌, ◌%◌, ◌^◌, ◌<◌, ◌≤◌, ℕ, suc, ℤ, pos, negsuc, List, [], ◌∷◌, ◌++◌, length, map, refl, sym, ap, subst, append_assoc, arith}
use Rattle.std.specs.Int.{cast_signed, w8, w16, w32, w64}
use Rattle.std.proofs.lemmas.List.{length-append}
use Rattle.std.proofs.Math.Facts.{to_z-neg}
use Rattle.std.proofs.lemmas.Bool.{cases_lt}
use Rattle.std.proofs.lemmas.Int.{to_z_pos}
use Rattle.std.proofs.Math.Nat.{mod-lt}
use Rattle.litmus_lex.specs.declared.sign.Sign.TheVariants.{CloseBrace, Semicolon}
use Rattle.litmus_syntax.specs.declared.program.Contents.{Contents}
use Rattle.litmus_syntax.specs.declared.program.Contents.TheVariants as contents
use Rattle.litmus_syntax.specs.declared.program.Variable.{Variable}
use Rattle.litmus_lex.specs.declared.words.VariableType.{VariableType}
use Rattle.litmus_lex.specs.declared.words.VariableType.TheVariants.{Char, Short, Int, Long, Atomic, Lock}
use Rattle.litmus_lex.specs.declared.words.Word.TheVariants as words
use Rattle.litmus_lex.specs.Words.{Symbol, identifier, sign, word}
use Rattle.litmus_expression.specs.Followed.{Differ}
use Rattle.litmus_expression.specs.Names.{Names, Numbered, new}
use Rattle.litmus_parse.specs.Headers as headers
use Rattle.litmus_parse.specs.Headers.{Item, Items, Signed}
use Rattle.litmus_parse.specs.Mentions as mentions
use Rattle.litmus_parse.specs.Mentions.{AreDeclared, AreNumbered, Mention, contents_of}
use Rattle.print_roundtrip.specs.printed_texts.PrintedProcess.{type_of}
use Rattle.print_roundtrip.specs.printed_texts.PrintedProgram.{initial_symbols, items_symbols, mention_of, said_of, signed_symbols, signed_value}
use Rattle.print_roundtrip.proofs.printed_texts.Processes.{not_before}

-- ---- the block

signed_printed : (n : ℤ) (rest : List Symbol) → Signed (signed_symbols n rest) (signed_value n) rest
signed_printed (pos n) rest = headers.positive
signed_printed (negsuc n) rest = headers.negative

item_printed : (c : Contents) (name : List ℕ) (rest : List Symbol)
    → Item (word (words.Type (type_of c)) ∷ identifier name ∷ initial_symbols c rest) (record { name = name; said = said_of c }) rest
item_printed (contents.Char n) name rest = headers.typed_given (headers.plain (signed_printed n rest))
item_printed (contents.Short n) name rest = headers.typed_given (headers.plain (signed_printed n rest))
item_printed (contents.Int n) name rest = headers.typed_given (headers.plain (signed_printed n rest))
item_printed (contents.Long n) name rest = headers.typed_given (headers.plain (signed_printed n rest))
item_printed (contents.Atomic n) name rest = headers.typed_given (headers.plain (signed_printed n rest))
item_printed contents.Lock name rest = headers.typed

pub items_printed : (variables : List Variable) (rest : List Symbol)
    → Items (items_symbols variables (sign CloseBrace ∷ rest)) (map mention_of variables) rest
items_printed [] rest = headers.none
items_printed (v ∷ more) rest =
    headers.more (item_printed v.contents v.name (sign Semicolon ∷ items_symbols more (sign CloseBrace ∷ rest))) (items_printed more rest)

-- ---- numbers of names

append_nothing : (names : Names) → names ++ [] ≡ names
append_nothing [] = refl
append_nothing (n ∷ names) = ap (λ (l : Names). n ∷ l) (append_nothing names)

numbered_all : {all : List Mention} {names : Names} {variables : List Variable} → AreDeclared all names variables → (before whole : Names)
    → before ++ names ≡ whole → Differ whole → length whole ≤ 32 → AreNumbered before (map mention_of variables) whole
numbered_all mentions.none before whole is differ few =
    subst (λ (l : Names). AreNumbered before [] l) (sym (append_nothing before) ∙ is) mentions.none
numbered_all (mentions.more {names = names} {variables = variables} {name = name} {variable = v} declared later) before whole is differ few =
    let n = length-append before (name ∷ names) in
    let size : length (before ++ name ∷ names) ≡ length whole = ap (λ (l : Names). length l) is in
    let out = not_before before names name (subst (λ (l : Names). Differ l) (sym is) differ) in
    let lt : length before < 32 = omega (arith, n, size, few) in
    let one : Numbered 32 before v.name (length before) (before ++ name ∷ []) =
    subst (λ (m : List ℕ). Numbered 32 before m (length before) (before ++ name ∷ [])) (sym declared.name_is) (new out lt) in
    mentions.more one (numbered_all later (before ++ name ∷ []) whole (append_assoc before (name ∷ []) names ∙ is) differ few)

pub numbers_printed : {all : List Mention} {names : Names} {variables : List Variable} → AreDeclared all names variables → Differ names
    → length names ≤ 32 → AreNumbered [] (map mention_of variables) names
numbers_printed {names = names} declared differ few = numbered_all declared [] names refl differ few

-- ---- values

back8 : (m : ℕ) → m < 2 ^ 8 → signed_value (cast_signed w8 m) % 2 ^ 8 ≡ m
back8 m lt =
    elim (cases_lt m 128) [
      | inl low ↦
          let same : m % 2 ^ 8 ≡ m = omega arith in
          ap (λ (z : ℤ). signed_value z % 2 ^ 8) (to_z_pos w8 m low) ∙ same
      | inr high ↦
          let k : ℕ = 255 - m in
          let is : m ≡ 2 ^ 8 - suc k = omega arith in
          let small : k < 128 = omega arith in
          let same : ((2 ^ 64 - suc k) % 2 ^ 64) % 2 ^ 8 ≡ m = omega arith in
          ap (λ (n : ℕ). signed_value (cast_signed w8 n) % 2 ^ 8) is
          ∙ ap (λ (z : ℤ). signed_value z % 2 ^ 8) (to_z-neg w8 k small) ∙ same
    ]

back16 : (m : ℕ) → m < 2 ^ 16 → signed_value (cast_signed w16 m) % 2 ^ 16 ≡ m
back16 m lt =
    elim (cases_lt m 32768) [
      | inl low ↦
          let same : m % 2 ^ 16 ≡ m = omega arith in
          ap (λ (z : ℤ). signed_value z % 2 ^ 16) (to_z_pos w16 m low) ∙ same
      | inr high ↦
          let k : ℕ = 65535 - m in
          let is : m ≡ 2 ^ 16 - suc k = omega arith in
          let small : k < 32768 = omega arith in
          let same : ((2 ^ 64 - suc k) % 2 ^ 64) % 2 ^ 16 ≡ m = omega arith in
          ap (λ (n : ℕ). signed_value (cast_signed w16 n) % 2 ^ 16) is
          ∙ ap (λ (z : ℤ). signed_value z % 2 ^ 16) (to_z-neg w16 k small) ∙ same
    ]

back32 : (m : ℕ) → m < 2 ^ 32 → signed_value (cast_signed w32 m) % 2 ^ 32 ≡ m
back32 m lt =
    elim (cases_lt m 2147483648) [
      | inl low ↦
          let same : m % 2 ^ 32 ≡ m = omega arith in
          ap (λ (z : ℤ). signed_value z % 2 ^ 32) (to_z_pos w32 m low) ∙ same
      | inr high ↦
          let k : ℕ = 4294967295 - m in
          let is : m ≡ 2 ^ 32 - suc k = omega arith in
          let small : k < 2147483648 = omega arith in
          let same : ((2 ^ 64 - suc k) % 2 ^ 64) % 2 ^ 32 ≡ m = omega arith in
          ap (λ (n : ℕ). signed_value (cast_signed w32 n) % 2 ^ 32) is
          ∙ ap (λ (z : ℤ). signed_value z % 2 ^ 32) (to_z-neg w32 k small) ∙ same
    ]

back64 : (m : ℕ) → m < 2 ^ 64 → signed_value (cast_signed w64 m) % 2 ^ 64 ≡ m
back64 m lt =
    elim (cases_lt m 9223372036854775808) [
      | inl low ↦
          let same : m % 2 ^ 64 ≡ m = omega arith in
          ap (λ (z : ℤ). signed_value z % 2 ^ 64) (to_z_pos w64 m low) ∙ same
      | inr high ↦
          let k : ℕ = 18446744073709551615 - m in
          let is : m ≡ 2 ^ 64 - suc k = omega arith in
          let small : k < 9223372036854775808 = omega arith in
          let same : ((2 ^ 64 - suc k) % 2 ^ 64) % 2 ^ 64 ≡ m = omega arith in
          ap (λ (n : ℕ). signed_value (cast_signed w64 n) % 2 ^ 64) is
          ∙ ap (λ (z : ℤ). signed_value z % 2 ^ 64) (to_z-neg w64 k small) ∙ same
    ]

-- the value that the printed form gives
abbrev pub printed_value : Contents → ℕ
printed_value (contents.Char n) = signed_value n
printed_value (contents.Short n) = signed_value n
printed_value (contents.Int n) = signed_value n
printed_value (contents.Long n) = signed_value n
printed_value (contents.Atomic n) = signed_value n
printed_value contents.Lock = 0

below : (value n : ℕ) → 0 < n → value % n < n
below value n some = mod-lt value some

-- what is printed of a value, cut to its type, is the value again
pub value_printed : (t : VariableType) (value : ℕ)
    → contents_of (type_of (contents_of t value)) (printed_value (contents_of t value)) ≡ contents_of t value
value_printed Char value =
    ap (λ (n : ℕ). contents.Char (cast_signed w8 n)) (back8 (value % 2 ^ 8) (below value (2 ^ 8) (omega arith)))
value_printed Short value =
    ap (λ (n : ℕ). contents.Short (cast_signed w16 n)) (back16 (value % 2 ^ 16) (below value (2 ^ 16) (omega arith)))
value_printed Int value =
    ap (λ (n : ℕ). contents.Int (cast_signed w32 n)) (back32 (value % 2 ^ 32) (below value (2 ^ 32) (omega arith)))
value_printed Long value =
    ap (λ (n : ℕ). contents.Long (cast_signed w64 n)) (back64 (value % 2 ^ 64) (below value (2 ^ 64) (omega arith)))
value_printed Atomic value =
    ap (λ (n : ℕ). contents.Atomic (cast_signed w32 n)) (back32 (value % 2 ^ 32) (below value (2 ^ 32) (omega arith)))
value_printed Lock value = refl
