-- All bytes before `len` are of the class.
use Rattle.std.proofs.Common.{◌≡◌, ℕ, ◌<◌, ◌≤◌, ◌-◌, true, get_or, length}
use Rattle.litmus_lex.specs.Bytes.{belongs}
use Rattle.litmus_lex.proofs.bytes.run_len.Given as goal

abbrev pub invariant-loop-len : goal.invariant-loop-len
invariant-loop-len l = record {
  within : l.len ≤ length l.bytes;
  reads : (k : ℕ) → k < l.len → belongs l.class (get_or l.bytes k 0) ≡ true;
}

abbrev pub decreases-loop-len : goal.decreases-loop-len
decreases-loop-len l = length l.bytes - l.len
