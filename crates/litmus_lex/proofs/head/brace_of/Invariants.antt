-- What stands before `len` is passed over, whatever is passed over behind it.
use Rattle.std.proofs.Common.{◌≡◌, ◌≤◌, ◌-◌, ◌++◌, List, ℕ, drop, length, take}
use Rattle.litmus_lex.specs.Head.{IsPassedOver}
use Rattle.litmus_lex.proofs.head.brace_of.Given as goal

abbrev pub invariant-loop-more : goal.invariant-loop-more
invariant-loop-more l = record {
  within : l.len ≤ length l.bytes;
  before : (passed rest : List ℕ) → drop l.len l.bytes ≡ passed ++ rest
      → IsPassedOver passed rest → IsPassedOver (take l.len l.bytes ++ passed) rest;
}

abbrev pub decreases-loop-more : goal.decreases-loop-more
decreases-loop-more l = length l.bytes - l.len
