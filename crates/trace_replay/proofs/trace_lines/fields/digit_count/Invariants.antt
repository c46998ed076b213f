-- all bytes before `len` are digits
use Rattle.std.proofs.Common.{◌≡◌, ℕ, ◌<◌, ◌≤◌, ◌-◌, true, get_or, length}
use Rattle.std.specs.Char.{is_ascii_digit}
use Rattle.trace_replay.proofs.trace_lines.fields.digit_count.Given as goal

abbrev pub invariant-loop-len : goal.invariant-loop-len
invariant-loop-len l = record {
  within : l.len ≤ length l.bytes;
  reads : (k : ℕ) → k < l.len → is_ascii_digit (get_or l.bytes k 0) ≡ true;
}

abbrev pub decreases-loop-len : goal.decreases-loop-len
decreases-loop-len l = length l.bytes - l.len
