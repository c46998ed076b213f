-- By the points of each task's way: between two records stands one event at most, and marks.
use Rattle.soundness.proofs.RecordsDoEvents.{each_does, marks_first}
use Rattle.soundness.proofs.verdicts.law_records_tell_their_events.Goals as goal

pub returns-clause-each : goal.returns-clause-each
returns-clause-each c = each_does

pub returns-clause-first : goal.returns-clause-first
returns-clause-first c = marks_first
