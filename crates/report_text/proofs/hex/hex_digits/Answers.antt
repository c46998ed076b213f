-- each digit is written before those that stand
use Rattle.std.proofs.Common.{◌≡◌, ◌+◌, ◌-◌, ◌/◌, ◌%◌, ◌^◌, ◌<◌, ◌≤◌, ◌∙◌, ℕ, List, ap, arith, drop, false, length, set, suc, zero, length-set, sym, subst}
use Rattle.std.proofs.lemmas.List.{at_drop_all, drop-set}
use Rattle.std.specs.Fmt.{digit_glyph, digits}
use Rattle.report_text.proofs.HexDigits.{onto, onto_all, onto_last, onto_step, sixteenth}
use Rattle.report_text.proofs.hex.hex_digits.Goals as goal

pub loop-rest-init : goal.loop-rest-init
loop-rest-init c = (
  c.told-buffer,
  omega arith,
  omega arith,
  omega arith,
  at_drop_all (λ t. onto 64 c.args.number t) c.args.buffer.now 16 (omega arith) ∙ onto_all c.args.number,
)

-- one digit more
step : (number rest start digit : ℕ) (buffer : List ℕ) → 16 ≤ rest → 0 < start → start ≤ length buffer
    → digit ≡ digit_glyph false (rest % 16)
    → onto (start + 48) rest (drop start buffer) ≡ digits 16 false number
    → onto (start - 1 + 48) (rest / 16) (drop (start - 1) (set buffer (start - 1) digit)) ≡ digits 16 false number
step number rest start digit buffer big some room is h =
    let e : start + 48 ≡ suc (start - 1 + 48) = omega arith in
    let back : start - 1 + 1 ≡ start = omega arith in
    rw (drop-set buffer (start - 1) digit (omega arith), back, is)
    (sym (onto_step (start - 1 + 48) rest (drop start buffer) big)
    ∙ ap (λ k. onto k rest (drop start buffer)) (sym e) ∙ h)

-- the last digit
last : (number rest start digit : ℕ) (buffer : List ℕ) → rest < 16 → 0 < start → start ≤ length buffer
    → digit ≡ digit_glyph false rest
    → onto (start + 48) rest (drop start buffer) ≡ digits 16 false number
    → drop (start - 1) (set buffer (start - 1) digit) ≡ digits 16 false number
last number rest start digit buffer small some room is h =
    let e : start + 48 ≡ suc (start - 1 + 48) = omega arith in
    let back : start - 1 + 1 ≡ start = omega arith in
    rw (drop-set buffer (start - 1) digit (omega arith), back, is)
    (sym (onto_last (start - 1 + 48) rest (drop start buffer) small)
    ∙ ap (λ k. onto k rest (drop start buffer)) (sym e) ∙ h)

-- more than one digit is left, and has room
two_left : (rest start : ℕ) → 16 ≤ rest → rest < 16 ^ start → 1 < start
two_left rest zero big h = omega arith
two_left rest (suc zero) big h = omega arith
two_left rest (suc (suc k)) big h = omega arith

pub loop-rest-preserved : goal.loop-rest-preserved
loop-rest-preserved c =
    let inv = c.loop-rest.invariant in
    let two : 1 < c.loop-rest.start = two_left c.loop-rest.rest c.loop-rest.start c.loop-rest-test.true inv.3 in
    let e : c.loop-rest.start ≡ suc (c.loop-rest.start - 1) = omega arith in (
      length-set c.loop-rest.buffer (c.loop-rest.start - 1) c.hex_digit.result ∙ inv.0,
      omega arith,
      omega arith,
      sixteenth (c.loop-rest.start - 1) c.loop-rest.rest (subst (λ k. c.loop-rest.rest < 16 ^ k) e inv.3),
      step c.args.number c.loop-rest.rest c.loop-rest.start _ c.loop-rest.buffer c.loop-rest-test.true inv.2
          (omega arith) c.hex_digit.ensures inv.4,
    )

pub returns-clause-digits : goal.returns-clause-digits
returns-clause-digits c =
    let inv = c.loop-rest.invariant in
    last c.args.number c.loop-rest.rest c.loop-rest.start _ c.loop-rest.buffer c.loop-rest-test.false inv.2
    (omega arith) c.hex_digit-2.ensures inv.4
