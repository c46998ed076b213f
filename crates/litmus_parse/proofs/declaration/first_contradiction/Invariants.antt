-- What was found so far, or is still to be found.
use Rattle.std.proofs.Common.{◌≡◌, true, cond, length, map}
use Rattle.std.specs.Prelude.{is_some}
use Rattle.litmus_parse.specs.Entries.{entry_of}
use Rattle.litmus_parse.specs.Variables.{has_contradiction}
use Rattle.litmus_parse.proofs.declaration.first_contradiction.Given as goal

abbrev pub invariant-loop-variables : goal.invariant-loop-variables
invariant-loop-variables l =
    has_contradiction (map entry_of l.initial.variables) ≡ cond (is_some l.first) true (has_contradiction (map entry_of l.variables))

abbrev pub decreases-loop-variables : goal.decreases-loop-variables
decreases-loop-variables l = length l.variables
