-- What was told by the rest was told by the list.
use Rattle.std.proofs.Common.{Contains, length}
use Rattle.slot_table.specs.Meetings.{finders_told}
use Rattle.oracle_soundness.proofs.oracle_headline.meetings.was_told.Given as goal

abbrev pub invariant-loop-records : goal.invariant-loop-records
invariant-loop-records l = Contains (finders_told l.records) l.met → Contains (finders_told l.initial.records) l.met

abbrev pub decreases-loop-records : goal.decreases-loop-records
decreases-loop-records l = length l.records
