-- Below 8 bytes the range of values is small; from 8 bytes on 64 bits lie within it.
use Rattle.std.proofs.Common.{◌≡◌, ◌<◌, ◌≤◌, ◌^◌, ◌+◌, ◌-◌, ◌*◌, ℕ, Bool, true, false, cond, nat_le, arith, refl, lit<, sym, ◌∙◌}
use Rattle.std.proofs.Math.Nat.{pow-le-pow_right, one-le-pow, mod-eq_of_lt}
use Rattle.litmus_semantics.specs.Values.{cut, sign_extended}

pub range_above_zero : (size : ℕ) → 0 < 256 ^ size
range_above_zero size = one-le-pow size 256 (lit< tt)

pub range_small : (size : ℕ) → size < 8 → 256 ^ size ≤ 2 ^ 56
range_small size h = let upto : size ≤ 7 = omega arith in pow-le-pow_right {n = 256} (lit< tt) upto

pub range_wide : (size : ℕ) → 8 ≤ size → 2 ^ 64 ≤ 256 ^ size
range_wide size h = pow-le-pow_right {n = 256} (lit< tt) h

pub cut_of_wide : (size value : ℕ) → 8 ≤ size → value < 2 ^ 64 → value ≡ cut size value
cut_of_wide size value h below =
    let wide : 2 ^ 64 ≤ 256 ^ size = range_wide size h in
    let within : value < 256 ^ size = omega arith in
    sym (mod-eq_of_lt within)

sign_of_wide : (range low : ℕ) (b : Bool) → 2 ^ 64 ≤ range → cond b (low + (2 ^ 64 - range)) low ≡ low
sign_of_wide range low true h = omega arith
sign_of_wide range low false h = refl

pub sign_extended_of_wide : (size value : ℕ) → 8 ≤ size → value < 2 ^ 64 → value ≡ sign_extended size value
sign_extended_of_wide size value h below =
    cut_of_wide size value h below
    ∙ sym (sign_of_wide (256 ^ size) (cut size value) (nat_le (256 ^ size) (2 * cut size value)) (range_wide size h))
