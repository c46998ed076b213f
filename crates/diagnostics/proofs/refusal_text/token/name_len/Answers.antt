-- The first byte that isn't of the name.
use Rattle.std.proofs.Common.{◌∙◌, ap, arith, sym}
use Rattle.std.specs.Prelude.{not}
use Rattle.std.proofs.lemmas.List.Sums.{position_or_len_is}
use Rattle.diagnostics.specs.refusal_text.Token.{is_no_name_byte}
use Rattle.diagnostics.proofs.refusal_text.token.name_len.Goals as goal

pub returns-then-not-is_name_byte-clause-exact : goal.returns-then-not-is_name_byte-clause-exact
returns-then-not-is_name_byte-clause-exact c =
    sym (position_or_len_is is_no_name_byte c.args.bytes.now c.loop-len.len 0 (omega arith) c.loop-len.invariant
    (λ _. ap not (sym c.is_name_byte.ensures ∙ c.if-not-is_name_byte.true)))

pub returns-clause-exact : goal.returns-clause-exact
returns-clause-exact c =
    sym (position_or_len_is is_no_name_byte c.args.bytes.now _ 0 (omega arith) (λ k h. c.loop-len.invariant k (omega arith))
    (λ h. absurd (omega (arith, h))))
