-- The bytes so far are those of a text.
use Rattle.std.proofs.Common.{ℕ, ◌<◌, get_or}
use Rattle.litmus_parse.specs.Text.{IsTextByte}
use Rattle.litmus_parse.proofs.text.first_foreign.Given as goal

abbrev pub invariant-loop-at : goal.invariant-loop-at
invariant-loop-at l = (k : ℕ) → k < l.at → IsTextByte (get_or l.text k 0)
