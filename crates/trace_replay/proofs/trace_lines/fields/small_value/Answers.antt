-- the value of all digits is no less than that of those at the front, which is too large already
use Rattle.std.proofs.Common.{◌∙◌, ◌+◌, ◌*◌, ◌^◌, ◌<◌, ◌≤◌, ap, arith, get_or, length, subst, sym}
use Rattle.std.specs.Char.{digit_value}
use Rattle.std.proofs.lemmas.Int.Digits.{digits_value_more}
use Rattle.trace_replay.proofs.trace_lines.Digits.{large_none, small_all, value_large}
use Rattle.trace_replay.proofs.trace_lines.fields.small_value.Goals as goal

pub returns-in_err-value : goal.returns-in_err-value
returns-in_err-value c =
    let digit_is = c.in_ok-digit.ensures.value.1 ∙ ap digit_value c.from.ensures in
    let inside : c.loop-digit.digit-index < length c.args.digits.now = omega arith in
    let large = subst (λ d. 2 ^ 64 ≤ c.loop-digit.value * 10 + d) digit_is
    c.in_err-value.ensures.none in
    rw c.from_residual-in_err-value.ensures
    (large_none c.args.digits.now (value_large c.args.digits.now c.loop-digit.digit-index
    (2 ^ 64) c.loop-digit.value inside c.loop-digit.invariant.is large))

pub loop-digit-preserved : goal.loop-digit-preserved
loop-digit-preserved c =
    let digit_is = c.in_ok-digit.ensures.value.1 ∙ ap digit_value c.from.ensures in
    let inside : c.loop-digit.digit-index < length c.args.digits.now = omega arith in
    record {
      small = omega arith;
      is = c.in_ok-value.ensures.found
          ∙ (ap (λ d. c.loop-digit.value * 10 + d) digit_is
          ∙ (ap (λ v. v * 10 + digit_value
          (get_or c.args.digits.now c.loop-digit.digit-index 0)) c.loop-digit.invariant.is
          ∙ sym (digits_value_more 10 c.args.digits.now c.loop-digit.digit-index inside)));
    }

pub returns : goal.returns
returns c = small_all c.args.digits.now c.loop-digit.digit-index c.loop-digit.value (omega arith) c.loop-digit.invariant.small c.loop-digit.invariant.is
