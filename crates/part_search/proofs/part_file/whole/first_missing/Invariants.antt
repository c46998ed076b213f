-- Each number so far is that of a part.
use Rattle.std.proofs.Common.{◌≤◌, ℕ}
use Rattle.std.specs.Prelude.{IsTrue}
use Rattle.part_search.specs.part_file.Wholes.{has_number}
use Rattle.part_search.proofs.part_file.whole.first_missing.Given as goal

abbrev pub invariant-loop-before : goal.invariant-loop-before
invariant-loop-before l = (number : ℕ) → 1 ≤ number → number ≤ l.before → IsTrue (has_number l.parts number)
