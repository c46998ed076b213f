-- A number that is not 0 has a bit, and the bits of an exclusive or are those that differ.
use Rattle.std.proofs.Common.{◌≡◌, ◌≢◌, ◌↔◌, ◌∙◌, Bool, true, false, not, nat_eq, IsTrue, ◌+◌, ◌/◌}
use Rattle.std.proofs.Common.{◌%◌, ◌<◌, ◌≤◌, ℕ, Option, Some, None, ap, arith, bit_and, bit_xor}
use Rattle.std.proofs.Common.{min, refl, suc, sym, zero}
use Rattle.std.proofs.lemmas.Bool.{eqb-false, eqb-true}
use Rattle.std.proofs.Math.Nat.{pos_of_ne-zero}
use Rattle.std.proofs.lemmas.Nat.Bits.{bit_at-lt, bit_at-suc, bit_at-zero, bit_at_and}
use Rattle.std.proofs.lemmas.Nat.Bits.{bit_at_lowest, bit_at_xor, same_from_bits}
use Rattle.std.specs.Int.{bit_at}
use Rattle.access_types.specs.Race.{Differ}
use Rattle.value_filter.specs.Change.{BitDiffers}

-- at some position the number has a bit
record HasBit (n : ℕ) : Type 0 where
  position : ℕ
  set : bit_at n position ≡ 1

-- an odd number has its lowest bit, and an even one those of its half
lowest_or_later : (n parity : ℕ) → n % 2 ≡ parity → (n % 2 ≡ 0 → HasBit (n / 2)) → HasBit n
lowest_or_later n zero even later =
    let half : HasBit (n / 2) = later even in
    record { position = suc half.position; set = bit_at-suc n half.position ∙ half.set }
lowest_or_later n (suc more) odd later =
    record { position = 0; set = let one : n % 2 ≡ 1 = omega arith in bit_at_lowest n ∙ one }

-- a number above 0 has a bit
has_bit : (limit n : ℕ) → n ≤ limit → 0 < n → HasBit n
has_bit zero n small some = absurd (omega arith)
has_bit (suc limit) n small some =
    lowest_or_later n (n % 2) refl (λ even. has_bit limit (n / 2) (omega arith) (omega arith))

above_zero_has_bit : (n : ℕ) → 0 < n → HasBit n
above_zero_has_bit n some = has_bit n n (omega arith) some

-- one bit of an exclusive or under a mask: where it is 0 and the mask has its bit, the two bits are
-- one
bits_equal : (a b m : ℕ) → a < 2 → b < 2 → m ≡ 1 → min ((a + b) % 2) m ≡ 0 → a ≡ b
bits_equal a b m a_bit b_bit counts none = omega arith

-- and where it is 1, the mask has its bit and the two differ
bit_counts : (a b m : ℕ) → a < 2 → b < 2 → m < 2 → min ((a + b) % 2) m ≡ 1 → m ≡ 1
bit_counts a b m a_bit b_bit m_bit one = omega arith

bits_apart : (a b m : ℕ) → a < 2 → b < 2 → m < 2 → min ((a + b) % 2) m ≡ 1 → a ≢ b
bits_apart a b m a_bit b_bit m_bit one same = omega arith

-- the bit of an exclusive or under a mask, from those of the three
masked_bit : (old new mask position : ℕ)
    → bit_at (bit_and (bit_xor old new) mask) position
    ≡ min ((bit_at old position + bit_at new position) % 2) (bit_at mask position)
masked_bit old new mask position =
    bit_at_and (bit_xor old new) mask position
    ∙ ap (λ bit. min bit (bit_at mask position)) (bit_at_xor old new position)

-- the bit of an exclusive or, where there is no mask
xor_bit : (a b : ℕ) → a < 2 → b < 2 → (a + b) % 2 ≡ 0 → a ≡ b
xor_bit a b a_bit b_bit none = omega arith

xor_bit_apart : (a b : ℕ) → (a + b) % 2 ≡ 1 → a ≢ b
xor_bit_apart a b one same = omega arith

-- the bits in which two values differ and that count
abbrev pub changed_bits : Option ℕ → ℕ → ℕ → ℕ
changed_bits None old new = bit_xor old new
changed_bits (Some mask) old new = bit_and (bit_xor old new) mask

-- where some changed bit counts, a bit differs
pub bit_differs : (mask : Option ℕ) (old new : ℕ) → changed_bits mask old new ≢ 0
    → BitDiffers mask old new
bit_differs None old new some =
    let bit : HasBit (bit_xor old new) = above_zero_has_bit _ (pos_of_ne-zero some) in
    record {
      position = bit.position;
      counts = tt;
      differ =
          xor_bit_apart _ _ (sym (bit_at_xor old new bit.position) ∙ bit.set);
    }
bit_differs (Some mask) old new some =
    let bit : HasBit (bit_and (bit_xor old new) mask) =
    above_zero_has_bit _ (pos_of_ne-zero some) in
    let one : min ((bit_at old bit.position + bit_at new bit.position) % 2)
    (bit_at mask bit.position) ≡ 1 = sym (masked_bit old new mask bit.position) ∙ bit.set in
    record {
      position = bit.position;
      counts = bit_counts _ _ _ (bit_at-lt old bit.position) (bit_at-lt new bit.position)
          (bit_at-lt mask bit.position) one;
      differ = bits_apart _ _ _ (bit_at-lt old bit.position) (bit_at-lt new bit.position)
          (bit_at-lt mask bit.position) one;
    }

-- where a bit differs, some changed bit counts
pub some_changed : (mask : Option ℕ) (old new : ℕ) → BitDiffers mask old new
    → changed_bits mask old new ≢ 0
some_changed None old new seen none = seen.differ
    (xor_bit _ _ (bit_at-lt old seen.position) (bit_at-lt new seen.position)
    (sym (bit_at_xor old new seen.position) ∙ ap (λ value. bit_at value seen.position) none
    ∙ bit_at-zero seen.position))
some_changed (Some mask) old new seen none = seen.differ
    (bits_equal _ _ (bit_at mask seen.position) (bit_at-lt old seen.position)
    (bit_at-lt new seen.position) seen.counts
    (sym (masked_bit old new mask seen.position) ∙ ap (λ value. bit_at value seen.position) none
    ∙ bit_at-zero seen.position))

-- two values without a changed bit are one value
unchanged : (old new : ℕ) → bit_xor old new ≡ 0 → old ≡ new
unchanged old new none = same_from_bits old new (λ position.
    xor_bit _ _ (bit_at-lt old position) (bit_at-lt new position)
    (sym (bit_at_xor old new position) ∙ ap (λ value. bit_at value position) none
    ∙ bit_at-zero position))

-- both ways of saying that two values differ
pub differ_from_bits : (mask : Option ℕ) (old new : ℕ) → BitDiffers mask old new
    → Differ mask old new
differ_from_bits None old new seen =
    λ same. seen.differ (ap (λ value. bit_at value seen.position) same)
differ_from_bits (Some mask) old new seen = some_changed (Some mask) old new seen

pub bits_from_differ : (mask : Option ℕ) (old new : ℕ) → Differ mask old new
    → BitDiffers mask old new
bits_from_differ None old new differ =
    bit_differs None old new (λ none. differ (unchanged old new none))
bits_from_differ (Some mask) old new differ = bit_differs (Some mask) old new differ

-- a test for 0, and what it says
not_zero_test : (n : ℕ) (zero_test : Bool) → nat_eq n 0 ≡ zero_test
    → IsTrue (not zero_test) ↔ (n ≢ 0)
not_zero_test n true is = (λ holds. cc, λ some. absurd (some (eqb-true n 0 is)))
not_zero_test n false is = (λ holds none. eqb-false n 0 is none, λ some. refl)

-- the test of the changed bits says whether a bit differs
pub changed_bits-test : (mask : Option ℕ) (old new : ℕ)
    → IsTrue (not (nat_eq (changed_bits mask old new) 0)) ↔ BitDiffers mask old new
changed_bits-test mask old new =
    let test = not_zero_test (changed_bits mask old new) _ refl in (
      λ holds. bit_differs mask old new (test.0 holds),
      λ differ. test.1 (some_changed mask old new differ),
    )
