-- The first LF.
use Rattle.std.proofs.Common.{ap, arith, sym}
use Rattle.std.specs.Prelude.{◌==◌}
use Rattle.std.proofs.lemmas.List.Sums.{position_or_len_is}
use Rattle.diagnostics.proofs.refusal_text.excerpt.line_len.Goals as goal

pub returns-then-byte-eq10-clause-exact : goal.returns-then-byte-eq10-clause-exact
returns-then-byte-eq10-clause-exact c =
    sym (position_or_len_is (λ byte. byte == 10) c.args.bytes.now c.loop-len.len 0 (omega arith) c.loop-len.invariant
    (λ _. ap (λ byte. byte == 10) c.if-byte-eq10.true))

pub returns-clause-exact : goal.returns-clause-exact
returns-clause-exact c =
    sym (position_or_len_is (λ byte. byte == 10) c.args.bytes.now _ 0 (omega arith) (λ k h. c.loop-len.invariant k (omega arith))
    (λ h. absurd (omega (arith, h))))
