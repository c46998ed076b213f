-- So far the tasks were asked as the entries before this one say.
use Rattle.std.proofs.Common.{take}
use Rattle.source_places.proofs.deadlocks.reached.make_entries.Given as goal
use Rattle.source_places.specs.deadlocks.Asked.{Asks}
use Rattle.prepared_program.specs.step_schedule.Order.{asked_by}

abbrev pub invariant-loop-entry : goal.invariant-loop-entry
invariant-loop-entry l = Asks (asked_by (take l.entry-index l.entries)) l.fn.world l.world
