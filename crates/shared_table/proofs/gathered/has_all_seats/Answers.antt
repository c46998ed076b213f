use Rattle.std.proofs.Common.{below_more}
use Rattle.shared_table.proofs.gathered.has_all_seats.Goals as goal

pub loop-task-preserved : goal.loop-task-preserved
loop-task-preserved c = below_more _ _ c.loop-task.invariant c.if-not-has_seat.ensures
