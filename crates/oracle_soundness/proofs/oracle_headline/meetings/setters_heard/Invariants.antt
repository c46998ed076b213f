-- The meetings passed, and those of the rest.
use Rattle.std.proofs.Common.{◌≡◌, ◌++◌, length}
use Rattle.slot_table.specs.Meetings.{setters_heard}
use Rattle.oracle_soundness.proofs.oracle_headline.meetings.setters_heard.Given as goal

abbrev pub invariant-loop-records : goal.invariant-loop-records
invariant-loop-records l = setters_heard l.initial.records ≡ l.met.items ++ setters_heard l.records

abbrev pub decreases-loop-records : goal.decreases-loop-records
decreases-loop-records l = length l.records
