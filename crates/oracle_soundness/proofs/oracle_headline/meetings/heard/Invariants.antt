-- What is heard last in the rest is heard last in the list.
use Rattle.std.proofs.Common.{◌≡◌, length}
use Rattle.slot_table.specs.Discipline.{heard}
use Rattle.slot_table.specs.Records.{records_of}
use Rattle.oracle_soundness.proofs.oracle_headline.meetings.heard.Given as goal

abbrev pub invariant-loop-records : goal.invariant-loop-records
invariant-loop-records l = heard l.index (records_of l.task l.initial.records) ≡ heard l.index (records_of l.task l.records)

abbrev pub decreases-loop-records : goal.decreases-loop-records
decreases-loop-records l = length l.records
