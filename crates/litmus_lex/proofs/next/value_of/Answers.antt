-- The value of all digits is no less than that of those at the front, which is too large already.
use Rattle.std.proofs.Common.{◌∙◌, ◌+◌, ◌*◌, ◌^◌, ◌<◌, ◌≤◌, ap, arith, get_or, length, subst, sym}
use Rattle.std.specs.Char.{digit_value}
use Rattle.std.proofs.lemmas.Int.Digits.{digits_value_more}
use Rattle.litmus_lex.proofs.Values.{value_large}
use Rattle.litmus_lex.proofs.next.value_of.Goals as goal

pub returns-in_err-value-clause-large : goal.returns-in_err-value-clause-large
returns-in_err-value-clause-large c =
    let digit_is = c.in_ok-digit.ensures.value.1 ∙ ap digit_value c.from.ensures in
    let inside : c.loop-digit.digit-index < length c.args.digits.now = omega arith in
    let large = subst (λ d. 2 ^ 64 ≤ c.loop-digit.value * c.args.radix + d) digit_is
    c.in_err-value.ensures.none in
    rw c.from_residual-in_err-value.ensures
    (value_large c.args.radix c.args.digits.now c.loop-digit.digit-index
    (2 ^ 64) c.loop-digit.value (omega arith) inside c.loop-digit.invariant large)

pub loop-digit-preserved : goal.loop-digit-preserved
loop-digit-preserved c =
    let digit_is = c.in_ok-digit.ensures.value.1 ∙ ap digit_value c.from.ensures in
    let inside : c.loop-digit.digit-index < length c.args.digits.now = omega arith in
    c.in_ok-value.ensures.found
    ∙ (ap (λ d. c.loop-digit.value * c.args.radix + d) digit_is
    ∙ (ap (λ v. v * c.args.radix + digit_value
    (get_or c.args.digits.now c.loop-digit.digit-index 0)) c.loop-digit.invariant
    ∙ sym (digits_value_more c.args.radix c.args.digits.now c.loop-digit.digit-index inside)))
