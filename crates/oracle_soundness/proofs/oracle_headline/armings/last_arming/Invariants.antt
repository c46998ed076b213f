-- What is the last in the rest is the last in the list.
use Rattle.std.proofs.Common.{◌≡◌, length}
use Rattle.slot_table.specs.Armings.{last_arming_number}
use Rattle.oracle_soundness.proofs.oracle_headline.armings.last_arming.Given as goal

abbrev pub invariant-loop-records : goal.invariant-loop-records
invariant-loop-records l = last_arming_number l.index l.initial.records ≡ last_arming_number l.index l.records

abbrev pub decreases-loop-records : goal.decreases-loop-records
decreases-loop-records l = length l.records
