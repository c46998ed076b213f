-- The takings passed, and those of the rest.
use Rattle.std.proofs.Common.{◌≡◌, ◌++◌, length}
use Rattle.slot_table.specs.Armings.{armings_taken}
use Rattle.oracle_soundness.proofs.oracle_headline.armings.armings_taken.Given as goal

abbrev pub invariant-loop-records : goal.invariant-loop-records
invariant-loop-records l = armings_taken l.initial.records ≡ l.taken.items ++ armings_taken l.records

abbrev pub decreases-loop-records : goal.decreases-loop-records
decreases-loop-records l = length l.records
