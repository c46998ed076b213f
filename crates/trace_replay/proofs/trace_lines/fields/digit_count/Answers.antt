-- each byte before `len` was found to be a digit, and the one at `len` wasn't
use Rattle.std.proofs.Common.{◌∙◌, arith, sym}
use Rattle.trace_replay.proofs.trace_lines.Digits.{digits_taken, taken_are}
use Rattle.trace_replay.proofs.trace_lines.fields.digit_count.Goals as goal

pub returns-else-is_ascii_digit : goal.returns-else-is_ascii_digit
returns-else-is_ascii_digit c =
    let i = c.loop-len.invariant in
    let t = digits_taken c.args.bytes.now c.loop-len.len i.within i.reads (λ _. sym c.is_ascii_digit.ensures.value ∙ c.if-is_ascii_digit.false) in
    record {
      within = i.within;
      digits = sym t.0;
      rest = sym t.1;
      are_digits = taken_are c.args.bytes.now c.loop-len.len i.within i.reads;
    }

pub returns-after-loop-len : goal.returns-after-loop-len
returns-after-loop-len c =
    let i = c.loop-len.invariant in
    let t = digits_taken c.args.bytes.now c.loop-len.len i.within i.reads (λ below. absurd (omega arith)) in
    record {
      within = i.within;
      digits = sym t.0;
      rest = sym t.1;
      are_digits = taken_are c.args.bytes.now c.loop-len.len i.within i.reads;
    }
