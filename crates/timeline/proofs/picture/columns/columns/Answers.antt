-- one column more
use Rattle.std.proofs.Common.{arith}
use Rattle.timeline.specs.picture.Columns.{IsColumnOf, tasks}
use Rattle.timeline.proofs.picture.Zips.{zip_next}
use Rattle.timeline.proofs.picture.columns.columns.Goals as goal

pub loop-task-preserved : goal.loop-task-preserved
loop-task-preserved c = rw c.in_ok-push.ensures.items
    (zip_next (IsColumnOf c.args.accesses.now) tasks c.loop-task.columns.items c.loop-task.task-index 0 c.in_ok-column.column (omega arith)
    c.loop-task.invariant c.in_ok-column.ensures)
