-- The lowest 64 bits of two values tell whether they differ in a bit of a mask of 64 bits.
use Rattle.std.proofs.Common.{◌≡◌, ◌≢◌, ◌<◌, ◌%◌, ◌^◌, ◌∙◌, ◌↔◌, ℕ, IsTrue, ap, arith, bit_and, nat_eq, not, sym}
use Rattle.std.specs.Prelude.{bit_xor}
use Rattle.std.proofs.lemmas.Bool.{eqb-false, ne_eqb, not-true, not_from_false}
use Rattle.std.proofs.lemmas.Nat.{and_le_r, and_mod, xor_mod}
use Rattle.std.proofs.Math.Nat.{mod-eq_of_lt}

pub low_bits : (old new mask : ℕ) → mask < 2 ^ 64
    → bit_and (bit_xor (old % 2 ^ 64) (new % 2 ^ 64)) mask ≡ bit_and (bit_xor old new) mask
low_bits old new mask small =
    let x : ℕ = bit_xor old new in
    let below : bit_and x mask < 2 ^ 64 = omega (arith, and_le_r x mask, small) in
    sym (sym (mod-eq_of_lt below) ∙ (and_mod x mask 64
    ∙ (ap (λ (m : ℕ). bit_and (x % 2 ^ 64) m) (mod-eq_of_lt small)
    ∙ ap (λ (n : ℕ). bit_and n mask) (xor_mod old new 64))))

-- the test that is made of the lowest bits
pub differs : (old new low high mask : ℕ) → mask < 2 ^ 64 → low ≡ old % 2 ^ 64 → high ≡ new % 2 ^ 64
    → IsTrue (not (nat_eq (bit_and (bit_xor low high) mask) 0)) ↔ (bit_and (bit_xor old new) mask ≢ 0)
differs old new low high mask small is_low is_high = (there, back) where
  same : bit_and (bit_xor low high) mask ≡ bit_and (bit_xor old new) mask
  same = ap (λ (n : ℕ). bit_and (bit_xor n high) mask) is_low
      ∙ (ap (λ (n : ℕ). bit_and (bit_xor (old % 2 ^ 64) n) mask) is_high ∙ low_bits old new mask small)

  there : IsTrue (not (nat_eq (bit_and (bit_xor low high) mask) 0)) → bit_and (bit_xor old new) mask ≢ 0
  there said same_bits = eqb-false (bit_and (bit_xor low high) mask) 0 (not-true _ said) (same ∙ same_bits)

  back : bit_and (bit_xor old new) mask ≢ 0 → IsTrue (not (nat_eq (bit_and (bit_xor low high) mask) 0))
  back differ = not_from_false _ (ne_eqb (bit_and (bit_xor low high) mask) 0 (λ is_zero. differ (sym same ∙ is_zero)))
