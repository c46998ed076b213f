-- The loop knows whether the task holds the lock after its records so far.
use Rattle.std.proofs.Common.{◌≡◌, reverse, take}
use Rattle.slot_table.specs.Discipline.{holds}
use Rattle.slot_table.specs.Records.{records_of}
use Rattle.slot_table.proofs.discipline.is_held_by.Given as goal

abbrev pub invariant-loop-record : goal.invariant-loop-record
invariant-loop-record l =
    l.is_held ≡ holds l.lock (records_of l.task (reverse (take l.record-index l.made)))
