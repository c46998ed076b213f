-- The value of digits doesn't fall as digits are added.
use Rattle.std.proofs.Common.{◌≡◌, ℕ, zero, suc, ◌+◌, ◌*◌, ◌<◌, ◌≤◌, List, [], ◌∷◌, arith, drop, get_or, length, refl, take}
use Rattle.std.proofs.Math.Nat.{mul-le-mul_left}
use Rattle.std.proofs.lemmas.Int.Digits.{digits_value_more}
use Rattle.std.specs.Char.{digit_value}
use Rattle.std.specs.Str.Parse.{digits_value, digits_value_after}

after-split : (radix n : ℕ) (digits : List ℕ) (i : ℕ)
    → digits_value_after radix n digits ≡ digits_value_after radix
    (digits_value_after radix n (take i digits)) (drop i digits)
after-split radix n [] zero = refl
after-split radix n [] (suc i) = refl
after-split radix n (digit ∷ digits) zero = refl
after-split radix n (digit ∷ digits) (suc i) =
    after-split radix (n * radix + digit_value digit) digits i

after_ge : (radix n : ℕ) (digits : List ℕ) → 0 < radix → n ≤ digits_value_after radix n digits
after_ge radix n [] positive = omega arith
after_ge radix n (digit ∷ digits) positive =
    let more = after_ge radix (n * radix + digit_value digit) digits positive in
    let some : n * 1 ≤ n * radix = mul-le-mul_left n (omega arith) in
    omega arith

-- where the first digits are too large, all are
pub value_large : (radix : ℕ) (digits : List ℕ) (i bound value : ℕ) → 0 < radix
    → i < length digits → value ≡ digits_value radix (take i digits)
    → bound ≤ value * radix + digit_value (get_or digits i 0) → bound ≤ digits_value radix digits
value_large radix digits i bound value positive inside is large =
    let more = digits_value_more radix digits i inside in
    let front : bound ≤ digits_value radix (take (i + 1) digits) = rw (more, ← is) large in
    let rest = after_ge radix (digits_value radix (take (i + 1) digits))
    (drop (i + 1) digits) positive in
    let whole = after-split radix 0 digits (i + 1) in
    omega arith
