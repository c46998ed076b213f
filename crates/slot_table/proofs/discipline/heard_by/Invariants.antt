-- The loop knows what the task has heard after its records so far.
use Rattle.std.proofs.Common.{◌≡◌, reverse, take}
use Rattle.slot_table.specs.Discipline.{heard}
use Rattle.slot_table.specs.Records.{records_of}
use Rattle.slot_table.proofs.discipline.heard_by.Given as goal

abbrev pub invariant-loop-record : goal.invariant-loop-record
invariant-loop-record l =
    l.both ≡ heard l.index (records_of l.task (reverse (take l.record-index l.made)))
