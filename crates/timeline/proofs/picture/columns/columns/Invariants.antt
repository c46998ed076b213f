-- the columns of the tasks so far
use Rattle.std.proofs.Common.{take}
use Rattle.std.specs.List.{AllZip}
use Rattle.timeline.specs.picture.Columns.{IsColumnOf, tasks}
use Rattle.timeline.proofs.picture.columns.columns.Given as goal

abbrev pub invariant-loop-task : goal.invariant-loop-task
invariant-loop-task l = AllZip (IsColumnOf l.accesses) (take l.task-index tasks) l.columns.items
