-- What the rest leaves in hand the list leaves.
use Rattle.std.proofs.Common.{◌≡◌, length}
use Rattle.slot_table.specs.Discipline.{in_hand}
use Rattle.slot_table.specs.Records.{records_of}
use Rattle.oracle_soundness.proofs.oracle_headline.meetings.in_hand.Given as goal

abbrev pub invariant-loop-records : goal.invariant-loop-records
invariant-loop-records l = in_hand (records_of l.task l.initial.records) ≡ in_hand (records_of l.task l.records)

abbrev pub decreases-loop-records : goal.decreases-loop-records
decreases-loop-records l = length l.records
