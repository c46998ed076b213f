-- Digits at the front of bytes, and what they spell.
use Rattle.std.proofs.Common.{◌≡◌, ◌∙◌, ℕ, zero, suc, ◌+◌, ◌*◌, ◌-◌, ◌^◌, ◌<◌, ◌≤◌, List, [], ◌∷◌, Bool, true}
use Rattle.std.proofs.Common.{false, if◌then◌else◌, Some, None, refl, ap, arith, length, get_or, get_or-take, take, drop, length-take-le, add-one}
use Rattle.std.proofs.Math.Seq.{drop-cons}
use Rattle.std.proofs.lemmas.List.{drop_all, take_all}
use Rattle.std.proofs.Math.Nat.{mul-le-mul_left, pow-le-pow_right, pow-suc}
use Rattle.std.proofs.lemmas.Bool.Decides.{nat_tests}
use Rattle.std.proofs.lemmas.Int.Digits.{digits_value_more}
use Rattle.std.specs.Char.{digit_value, is_ascii_digit}
use Rattle.std.specs.Str.Parse.{AllDigits, digits_value, digits_value_after}
use Rattle.trace_replay.specs.trace_lines.FieldReaders.{◌>>=◌, AreDigits, behind_digits, digits_of, hex_all, hex_value, small_value}

pub digit_value-digit : (byte : ℕ) → is_ascii_digit byte ≡ true → digit_value byte ≡ byte - 48
digit_value-digit byte is = grind (arith, nat_tests)

pub digit_small : (byte : ℕ) → is_ascii_digit byte ≡ true → digit_value byte < 10
digit_small byte is = grind (arith, nat_tests)

pub digits_taken : (bytes : List ℕ) (n : ℕ) → n ≤ length bytes
    → ((k : ℕ) → k < n → is_ascii_digit (get_or bytes k 0) ≡ true)
    → (n < length bytes → is_ascii_digit (get_or bytes n 0) ≡ false)
    → (digits_of bytes ≡ take n bytes) × (behind_digits bytes ≡ drop n bytes)
unfolding digits_of behind_digits
digits_taken [] zero within reads stops = (refl, refl)
digits_taken [] (suc n) within reads stops = absurd (omega arith)
digits_taken (b ∷ bytes) zero within reads stops =
    let e = stops (omega arith) in
    (ap (λ t. if t then b ∷ digits_of bytes else []) e, ap (λ t. if t then behind_digits bytes else b ∷ bytes) e)
digits_taken (b ∷ bytes) (suc n) within reads stops =
    let e = reads 0 (omega arith) in
    let more = digits_taken bytes n (omega arith) (λ k below. reads (suc k) (omega arith)) (λ inside. stops (omega arith)) in (
      ap (λ t. if t then b ∷ digits_of bytes else []) e ∙ ap (λ ds. b ∷ ds) more.0,
      ap (λ t. if t then behind_digits bytes else b ∷ bytes) e ∙ more.1,
    )

pub digits_of_are : (bytes : List ℕ) → AllDigits 10 (digits_of bytes)
unfolding digits_of
digits_of_are [] = tt
digits_of_are (b ∷ bytes) = by (is_ascii_digit b) refl (digits_of_are bytes)
  where
    by : (t : Bool) → is_ascii_digit b ≡ t → AllDigits 10 (digits_of bytes) → AllDigits 10 (if t then b ∷ digits_of bytes else [])
    by true e more = (digit_small b e, more)
    by false e more = tt

pub taken_are : (bytes : List ℕ) (n : ℕ) → n ≤ length bytes
    → ((k : ℕ) → k < n → is_ascii_digit (get_or bytes k 0) ≡ true) → AreDigits (take n bytes)
taken_are bytes n within reads k inside =
    let e = get_or-take n bytes k 0 (omega (arith, length-take-le n bytes within)) in
    rw e (digit_small (get_or bytes k 0) (reads k (omega (arith, length-take-le n bytes within))))

-- one digit more keeps below 2^64
pub hex_room : (count value : ℕ) → count < 16 → value < 16 ^ count → value * 16 + 16 ≤ 2 ^ 64
hex_room count value inside below =
    let one : zero < 16 = omega arith in
    let up : suc count ≤ 16 = omega arith in
    let e : 16 ^ suc count ≤ 16 ^ 16 = pow-le-pow_right one up in
    omega arith

after-split : (radix n : ℕ) (digits : List ℕ) (i : ℕ)
    → digits_value_after radix n digits ≡ digits_value_after radix
    (digits_value_after radix n (take i digits)) (drop i digits)
after-split radix n [] zero = refl
after-split radix n [] (suc i) = refl
after-split radix n (digit ∷ digits) zero = refl
after-split radix n (digit ∷ digits) (suc i) =
    after-split radix (n * radix + digit_value digit) digits i

after_ge : (radix n : ℕ) (digits : List ℕ) → 0 < radix → n ≤ digits_value_after radix n digits
after_ge radix n [] positive = omega arith
after_ge radix n (digit ∷ digits) positive =
    let more = after_ge radix (n * radix + digit_value digit) digits positive in
    let some : n * 1 ≤ n * radix = mul-le-mul_left n (omega arith) in
    omega arith

-- where the first digits are too large, all are
pub value_large : (digits : List ℕ) (i bound value : ℕ)
    → i < length digits → value ≡ digits_value 10 (take i digits)
    → bound ≤ value * 10 + digit_value (get_or digits i 0) → bound ≤ digits_value 10 digits
value_large digits i bound value inside is large =
    let more = digits_value_more 10 digits i inside in
    let front : bound ≤ digits_value 10 (take (i + 1) digits) = rw (more, ← is) large in
    let rest = after_ge 10 (digits_value 10 (take (i + 1) digits))
    (drop (i + 1) digits) (omega arith) in
    let whole = after-split 10 0 digits (i + 1) in
    omega arith

pub large_none : (digits : List ℕ) → 2 ^ 64 ≤ digits_value 10 digits → None ≡ small_value digits
unfolding small_value
large_none digits large = grind (arith, nat_tests)

pub small_some : (digits : List ℕ) (value : ℕ) → value < 2 ^ 64 → value ≡ digits_value 10 digits → Some value ≡ small_value digits
unfolding small_value
small_some digits value small is = grind (arith, nat_tests)

pub small_all : (digits : List ℕ) (i value : ℕ) → length digits ≤ i → value < 2 ^ 64
    → value ≡ digits_value 10 (take i digits) → Some value ≡ small_value digits
small_all digits i value all small is =
    small_some digits value small (is ∙ ap (digits_value 10) (take_all i digits all))

pub hex_decimal : (b : ℕ) → 48 ≤ b → b ≤ 57 → Some (b - 48) ≡ hex_value b
unfolding hex_value
hex_decimal b low high = grind (arith, nat_tests)

pub hex_letter : (b : ℕ) → 97 ≤ b → b ≤ 102 → Some (b - 97 + 10) ≡ hex_value b
unfolding hex_value
hex_letter b low high =
    let e : b - 97 + 10 ≡ b - 87 = omega arith in
    rw e (grind (arith, nat_tests))

pub hex_none : (b : ℕ) → ¬ ((48 ≤ b) × (b ≤ 57)) → ¬ ((97 ≤ b) × (b ≤ 102)) → None ≡ hex_value b
unfolding hex_value
hex_none b no_digit no_letter = grind (arith, nat_tests)

-- a digit more, or none
pub hex_step : (value : ℕ) (digits : List ℕ) (i : ℕ) → i < length digits
    → hex_all value (drop i digits) ≡ (hex_value (get_or digits i 0) >>= λ digit. hex_all (value * 16 + digit) (drop (i + 1) digits))
unfolding hex_all
hex_step value digits i inside = rw (add-one, drop-cons digits i 0)

pub hex_end : (value : ℕ) (digits : List ℕ) (i : ℕ) → length digits ≤ i → hex_all value (drop i digits) ≡ Some value
unfolding hex_all
hex_end value digits i past = rw (drop_all i digits past)

pub hex_grows : (count value digit : ℕ) → value < 16 ^ count → digit < 16 → value * 16 + digit < 16 ^ (count + 1)
hex_grows count value digit small below =
    let e : 16 ^ (count + 1) ≡ 16 ^ count * 16 = rw (add-one, pow-suc) in
    omega arith
