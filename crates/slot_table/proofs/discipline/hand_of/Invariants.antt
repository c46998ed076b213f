-- The loop knows what the task has in hand after its records so far.
use Rattle.std.proofs.Common.{◌≡◌, reverse, take}
use Rattle.slot_table.specs.Discipline.{in_hand}
use Rattle.slot_table.specs.Records.{records_of}
use Rattle.slot_table.proofs.discipline.hand_of.Given as goal

abbrev pub invariant-loop-record : goal.invariant-loop-record
invariant-loop-record l =
    l.hand ≡ in_hand (records_of l.task (reverse (take l.record-index l.made)))
