-- Bytes that a text may have.
use Rattle.std.proofs.Common.{◌≡◌, ◌<◌, ◌≤◌, ◌||◌, ◌&&◌, ◌==◌, inl, inr, ℕ, zero, suc, List, [], ◌∷◌, ◌++◌, Bool, true, false, refl, arith}
use Rattle.std.specs.Prelude.{All}
use Rattle.std.specs.Char.{digit_value}
use Rattle.std.specs.Str.Parse.{AllDigits}
use Rattle.std.proofs.lemmas.Bool.{or_cases}
use Rattle.std.proofs.lemmas.Bool.Decides.{nat_tests}
use Rattle.litmus_lex.specs.declared.bytes.Class.TheVariants.{Blank, Graphic, NameStart, NamePart}
use Rattle.litmus_lex.specs.declared.sign.Sign.{Sign}
use Rattle.litmus_lex.specs.declared.sign.Sign.TheVariants.{OpenBrace}
use Rattle.litmus_lex.specs.Bytes.{belongs, IsRun}
use Rattle.litmus_lex.specs.Sign.{sign_bytes}
use Rattle.litmus_lex.specs.Token.{IsName}
use Rattle.litmus_parse.specs.Text.{IsTextByte}
use Rattle.print_roundtrip.specs.printed_bytes.Reads.{AreText}

pub both_text : (a b : List ℕ) → AreText a → AreText b → AreText (a ++ b)
both_text [] b one two = two
both_text (x ∷ a) b one two = (one.0, both_text a b one.1 two)

pub all_text : (bytes : List ℕ) → AreText bytes → All IsTextByte bytes
all_text [] are = λ k d lt. absurd (omega arith)
all_text (b ∷ bytes) are = all_one b bytes are.0 (all_text bytes are.1)
  where
    all_one : (b : ℕ) (bytes : List ℕ) → IsTextByte b → All IsTextByte bytes → All IsTextByte (b ∷ bytes)
    all_one b bytes is later zero d lt = is
    all_one b bytes is later (suc k) d lt = later k d (omega arith)

pub between : (b : ℕ) → 32 ≤ b → b ≤ 126 → IsTextByte b
between b low high = inr (inr (inr (low, high)))

pub blank_text : (b : ℕ) → belongs Blank b ≡ true → IsTextByte b
blank_text b is =
    elim (or_cases (b == 9 || b == 10) (b == 13 || b == 32) is) [
      | inl one ↦ elim (or_cases (b == 9) (b == 10) one) [
        | inl tab ↦ inl (grind (arith, nat_tests))
        | inr line ↦ inr (inl (grind (arith, nat_tests)))
      ]
      | inr two ↦ elim (or_cases (b == 13) (b == 32) two) [
        | inl back ↦ inr (inr (inl (grind (arith, nat_tests))))
        | inr blank ↦ let low : 32 ≤ b = grind (arith, nat_tests) in
            let high : b ≤ 126 = grind (arith, nat_tests) in between b low high
      ]
    ]

graphic_text : (b : ℕ) → belongs Graphic b ≡ true → IsTextByte b
graphic_text b is =
    let low : 32 ≤ b = grind (arith, nat_tests) in
    let high : b ≤ 126 = grind (arith, nat_tests) in
    between b low high

start_text : (b : ℕ) → belongs NameStart b ≡ true → IsTextByte b
start_text b is =
    let low : 32 ≤ b = grind (arith, nat_tests) in
    let high : b ≤ 126 = grind (arith, nat_tests) in
    between b low high

part_text : (b : ℕ) → belongs NamePart b ≡ true → IsTextByte b
part_text b is =
    let low : 32 ≤ b = grind (arith, nat_tests) in
    let high : b ≤ 126 = grind (arith, nat_tests) in
    between b low high

digit_text : (b : ℕ) → digit_value b < 10 → IsTextByte b
digit_text b is =
    let low : 32 ≤ b = grind (arith, nat_tests) in
    let high : b ≤ 126 = grind (arith, nat_tests) in
    between b low high

parts_text : (bytes rest : List ℕ) → IsRun NamePart bytes rest → AreText bytes
parts_text [] rest is = tt
parts_text (b ∷ bytes) rest is = (part_text b is.0, parts_text bytes rest is.1)

pub name_text : (bytes rest : List ℕ) → IsName bytes rest → AreText bytes
name_text [] rest is = tt
name_text (b ∷ bytes) rest is = (start_text b is.0, parts_text bytes rest is.1)

pub digits_text : (bytes : List ℕ) → AllDigits 10 bytes → AreText bytes
digits_text [] all = tt
digits_text (b ∷ bytes) all = (digit_text b all.0, digits_text bytes all.1)

pub graphics_text : (bytes rest : List ℕ) → IsRun Graphic bytes rest → AreText bytes
graphics_text [] rest is = tt
graphics_text (b ∷ bytes) rest is = (graphic_text b is.0, graphics_text bytes rest is.1)

-- ---- signs

abbrev are_graphic : List ℕ → Bool
are_graphic [] = true
are_graphic (b ∷ bytes) = belongs Graphic b && are_graphic bytes

and_first : (a b : Bool) → (a && b) ≡ true → a ≡ true
and_first true b is = refl
and_first false b is = is

and_second : (a b : Bool) → (a && b) ≡ true → b ≡ true
and_second true b is = is
and_second false b is = absurd cc

graphic_are : (bytes : List ℕ) → are_graphic bytes ≡ true → AreText bytes
graphic_are [] is = tt
graphic_are (b ∷ bytes) is = (graphic_text b (and_first _ _ is), graphic_are bytes (and_second _ _ is))

sign_graphic : (s : Sign) → are_graphic (sign_bytes s) ≡ true
sign_graphic OpenBrace = refl
sign_graphic _ = refl

pub sign_text : (s : Sign) → AreText (sign_bytes s)
sign_text s = graphic_are (sign_bytes s) (sign_graphic s)
