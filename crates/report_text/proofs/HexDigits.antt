-- The digits of a number in base 16, from the last on.
use Rattle.std.proofs.Common.{◌≡◌, ◌-◌, ◌++◌, ◌/◌, ◌%◌, ◌^◌, ◌<◌, ◌≤◌, ◌∷◌, ◌∙◌, ℕ, suc, List, [], ap, arith, false, refl, length, replicate, append-nil}
use Rattle.std.proofs.Math.Nat.{sub-zero}
use Rattle.std.proofs.lemmas.Bool.{ne_eqb}
use Rattle.std.specs.Prelude.{if◌then◌else◌, ◌==◌}
use Rattle.std.specs.Fmt.{digit_glyph, digits, digits_onto, char_count, padded_integral}
use Rattle.access_types.specs.ReportText.{hex}

-- the last k digits of n at most, before those that stand
unfoldable pub onto : ℕ → ℕ → List ℕ → List ℕ
onto k n after = digits_onto k 16 false n after

pub onto_all : (n : ℕ) → onto 64 n [] ≡ digits 16 false n
unfolding onto digits
onto_all n = refl

pub onto_step : (k n : ℕ) (after : List ℕ) → 16 ≤ n
    → onto (suc k) n after ≡ onto k (n / 16) (digit_glyph false (n % 16) ∷ after)
unfolding onto
onto_step k n after big =
    let e : (n / 16 == 0) ≡ false = ne_eqb (n / 16) 0 (λ h. omega arith) in
    ap (λ b. if b then digit_glyph false (n % 16) ∷ after
    else digits_onto k 16 false (n / 16) (digit_glyph false (n % 16) ∷ after)) e

pub onto_last : (k n : ℕ) (after : List ℕ) → n < 16
    → onto (suc k) n after ≡ digit_glyph false n ∷ after
unfolding onto
onto_last k n after small =
    let e : n / 16 ≡ 0 = omega arith in
    let same : n % 16 ≡ n = omega arith in
    ap (λ q. if q == 0 then digit_glyph false (n % 16) ∷ after
    else digits_onto k 16 false q (digit_glyph false (n % 16) ∷ after)) e
    ∙ ap (λ m. digit_glyph false m ∷ after) same

-- a sixteenth needs a digit less
pub sixteenth : (k n : ℕ) → n < 16 ^ suc k → n / 16 < 16 ^ k
sixteenth k n h = omega (arith, h)

-- zeros up to the width, and then the digits
pub hex_is : (width n : ℕ) → hex width n ≡ replicate (width - length (digits 16 false n)) 48 ++ digits 16 false n
unfolding hex padded_integral char_count
hex_is width n = simp (sub-zero, append-nil)
