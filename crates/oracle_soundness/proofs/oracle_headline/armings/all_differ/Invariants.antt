-- If those of the rest differ, all do.
use Rattle.std.proofs.Common.{◌≢◌, AllPairs, length}
use Rattle.oracle_soundness.proofs.oracle_headline.armings.all_differ.Given as goal

abbrev pub invariant-loop-numbers : goal.invariant-loop-numbers
invariant-loop-numbers l = AllPairs ◌≢◌ l.numbers → AllPairs ◌≢◌ l.initial.numbers

abbrev pub decreases-loop-numbers : goal.decreases-loop-numbers
decreases-loop-numbers l = length l.numbers
