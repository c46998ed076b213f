-- each digit is counted
use Rattle.std.proofs.Common.{◌≡◌, ◌+◌, ◌-◌, ◌/◌, ◌%◌, ◌^◌, ◌<◌, ◌≤◌, ◌∷◌, ℕ, List, [], ap, arith, false, length, subst, suc, true, zero}
use Rattle.std.specs.Prelude.{◌==◌, if◌then◌else◌}
use Rattle.std.specs.Fmt.{digit_glyph, digits, digits_onto}
use Rattle.report_text.proofs.HexDigits.{onto, onto_all, onto_last, onto_step, sixteenth}
use Rattle.timeline.proofs.lengths.hex_digits.Goals as goal

-- digits before others are as many as they are alone
length-onto : (k n : ℕ) (after : List ℕ) → length (onto k n after) ≡ length after + length (onto k n [])
unfolding onto
length-onto zero n after = omega arith
length-onto (suc k) n after =
    let digit : ℕ = digit_glyph false (n % 16) in
    let before = length-onto k (n / 16) (digit ∷ after) in
    let alone = length-onto k (n / 16) (digit ∷ []) in
    elim (n / 16 == 0) as (λ b. length (if b then digit ∷ after else digits_onto k 16 false (n / 16) (digit ∷ after))
    ≡ length after + length (if b then digit ∷ [] else digits_onto k 16 false (n / 16) (digit ∷ []))) [
      | true ↦ omega arith
      | false ↦ omega (arith, before, alone)
    ]

pub loop-rest-init : goal.loop-rest-init
loop-rest-init c = record {
  some = omega arith;
  few = omega arith;
  room = omega arith;
  counted = omega (arith, ap length (onto_all c.args.number));
}

-- one digit more
step : (number rest count : ℕ) → 16 ≤ rest → 0 < count → count ≤ 16
    → count + length (onto (65 - count) rest []) ≡ length (digits 16 false number) + 1
    → count + 1 + length (onto (64 - count) (rest / 16) []) ≡ length (digits 16 false number) + 1
step number rest count big some few h =
    let fuel : 65 - count ≡ suc (64 - count) = omega arith in
    let next : length (onto (suc (64 - count)) rest []) ≡ length (onto (64 - count) (rest / 16) (digit_glyph false (rest % 16) ∷ [])) =
    ap length (onto_step (64 - count) rest [] big) in
    let more = length-onto (64 - count) (rest / 16) (digit_glyph false (rest % 16) ∷ []) in
    let now : count + length (onto (suc (64 - count)) rest []) ≡ length (digits 16 false number) + 1 =
    subst (λ k. count + length (onto k rest []) ≡ length (digits 16 false number) + 1) fuel h in
    omega (arith, next, more, now)

-- the last digit
last : (number rest count : ℕ) → rest < 16 → 0 < count → count ≤ 16
    → count + length (onto (65 - count) rest []) ≡ length (digits 16 false number) + 1
    → count ≡ length (digits 16 false number)
last number rest count small some few h =
    let fuel : 65 - count ≡ suc (64 - count) = omega arith in
    let one : length (onto (suc (64 - count)) rest []) ≡ length (digit_glyph false rest ∷ []) = ap length (onto_last (64 - count) rest [] small) in
    let now : count + length (onto (suc (64 - count)) rest []) ≡ length (digits 16 false number) + 1 =
    subst (λ k. count + length (onto k rest []) ≡ length (digits 16 false number) + 1) fuel h in
    omega (arith, one, now)

-- more than one digit is left, so that there is room for one
two_left : (rest k : ℕ) → 16 ≤ rest → rest < 16 ^ k → 1 < k
two_left rest zero big h = omega arith
two_left rest (suc zero) big h = omega arith
two_left rest (suc (suc k)) big h = omega arith

pub loop-rest-preserved : goal.loop-rest-preserved
loop-rest-preserved c =
    let inv = c.loop-rest.invariant in
    let count = c.loop-rest.count in
    let rest = c.loop-rest.rest in
    let two : 1 < 17 - count = two_left rest (17 - count) c.loop-rest-test.true inv.room in
    let here : 17 - count ≡ suc (16 - count) = omega arith in
    let next : 17 - (count + 1) ≡ 16 - count = omega arith in
    let fuel : 65 - (count + 1) ≡ 64 - count = omega arith in
    record {
      some = omega arith;
      few = omega arith;
      room = rw next (sixteenth (16 - count) rest (subst (λ k. rest < 16 ^ k) here inv.room));
      counted = rw fuel (step c.args.number rest count c.loop-rest-test.true inv.some inv.few inv.counted);
    }

pub returns-clause-exact : goal.returns-clause-exact
returns-clause-exact c =
    let inv = c.loop-rest.invariant in
    last c.args.number c.loop-rest.rest c.loop-rest.count c.loop-rest-test.false inv.some inv.few inv.counted
