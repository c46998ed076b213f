-- the word stands at the front, or a byte of it doesn't
use Rattle.std.proofs.Common.{◌≡◌, ◌∙◌, ◌-◌, Some, ap, arith, drop, length, length-drop, sym, take_all}
use Rattle.trace_replay.proofs.trace_lines.Words.{past_end, past_other, past_short, past_step}
use Rattle.trace_replay.proofs.trace_lines.fields.past.Goals as goal

pub returns-then-bytes-word : goal.returns-then-bytes-word
returns-then-bytes-word c = sym (past_short c.args.word.now c.args.bytes.now (omega arith))

pub returns-then-bytes-i : goal.returns-then-bytes-i
returns-then-bytes-i c = sym (c.loop-i.invariant
    ∙ past_other c.args.word.now c.args.bytes.now c.loop-i.i c.loop-i-test.true (omega arith) (λ e. c.if-bytes-i.true (sym e)))

pub loop-i-preserved : goal.loop-i-preserved
loop-i-preserved c = c.loop-i.invariant
    ∙ past_step c.args.word.now c.args.bytes.now c.loop-i.i c.loop-i-test.true (omega arith) (sym c.if-bytes-i.false)

pub returns : goal.returns
returns c =
    let all : c.loop-i.i ≡ length c.args.word.now = omega arith in
    let behind = drop (length c.args.word.now) c.args.bytes.now in
    ap Some (take_all (length c.args.bytes.now - length c.args.word.now) behind (omega (arith, length-drop (length c.args.word.now) c.args.bytes.now)))
    ∙ ap (λ n. Some (drop n c.args.bytes.now)) (sym all)
    ∙ sym (c.loop-i.invariant ∙ past_end c.args.word.now (drop c.loop-i.i c.args.bytes.now) c.loop-i.i (omega arith))
