-- a digit more, or none
use Rattle.std.proofs.Common.{◌∙◌, ◌+◌, ◌*◌, ap, arith, drop, sym}
use Rattle.trace_replay.specs.trace_lines.FieldReaders.{◌>>=◌, hex_all}
use Rattle.trace_replay.proofs.trace_lines.Digits.{hex_end, hex_grows, hex_room, hex_step}
use Rattle.trace_replay.proofs.trace_lines.fields.hex_all.Goals as goal

pub overflow_mul-value : goal.overflow_mul-value
overflow_mul-value c =
    let room = hex_room c.loop-digit.digit-index c.loop-digit.value (omega arith) c.loop-digit.invariant.small in omega arith

pub overflow_add-value : goal.overflow_add-value
overflow_add-value c =
    let room = hex_room c.loop-digit.digit-index c.loop-digit.value (omega arith) c.loop-digit.invariant.small in
    let small = c.in_ok-value.ensures.limit in omega arith

pub returns-in_err-value : goal.returns-in_err-value
returns-in_err-value c =
    let i = c.loop-digit.invariant in
    let step = hex_step c.loop-digit.value c.args.digits.now c.loop-digit.digit-index (omega arith) in
    let none = c.in_err-value.ensures.value in
    c.from_residual.ensures ∙ sym (i.reads ∙ step
    ∙ ap (λ o. o >>= λ digit. hex_all (c.loop-digit.value * 16 + digit) (drop (c.loop-digit.digit-index + 1) c.args.digits.now)) (sym none))

pub loop-digit-preserved : goal.loop-digit-preserved
loop-digit-preserved c =
    let i = c.loop-digit.invariant in
    let step = hex_step c.loop-digit.value c.args.digits.now c.loop-digit.digit-index (omega arith) in
    let some = c.in_ok-value.ensures.value in
    record {
      reads = i.reads ∙ step
          ∙ ap (λ o. o >>= λ digit. hex_all (c.loop-digit.value * 16 + digit) (drop (c.loop-digit.digit-index + 1) c.args.digits.now)) (sym some);
      small = hex_grows c.loop-digit.digit-index c.loop-digit.value c.in_ok-value.field-0 i.small c.in_ok-value.ensures.limit;
    }

pub returns : goal.returns
returns c = sym (c.loop-digit.invariant.reads ∙ hex_end c.loop-digit.value c.args.digits.now c.loop-digit.digit-index (omega arith))
