-- What stands before `len` are blanks and comments, whatever blanks and comments follow it.
use Rattle.std.proofs.Common.{◌≡◌, ◌≤◌, ◌-◌, ◌++◌, List, ℕ, drop, length, take}
use Rattle.litmus_lex.specs.Gap.{IsGap}
use Rattle.litmus_lex.proofs.gap.gap_of.Given as goal

abbrev pub invariant-loop-more : goal.invariant-loop-more
invariant-loop-more l = record {
  within : l.len ≤ length l.bytes;
  before : (gap rest : List ℕ) → drop l.len l.bytes ≡ gap ++ rest → IsGap l.part gap rest
      → IsGap l.part (take l.len l.bytes ++ gap) rest;
}

abbrev pub decreases-loop-more : goal.decreases-loop-more
decreases-loop-more l = length l.bytes - l.len
