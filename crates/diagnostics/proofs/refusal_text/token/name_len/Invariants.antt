-- All bytes so far are of the name.
use Rattle.std.proofs.Common.{◌≡◌, ℕ, ◌<◌, get_or, false}
use Rattle.diagnostics.specs.refusal_text.Token.{is_no_name_byte}
use Rattle.diagnostics.proofs.refusal_text.token.name_len.Given as goal

abbrev pub invariant-loop-len : goal.invariant-loop-len
invariant-loop-len l = (k : ℕ) → k < l.len → is_no_name_byte (get_or l.bytes k 0) ≡ false
