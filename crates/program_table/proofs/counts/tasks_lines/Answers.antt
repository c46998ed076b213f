-- each task keeps the limits
use Rattle.std.proofs.Common.{◌≡◌, List, Some, length, refl, slice_get}
use Rattle.std.proofs.lemmas.Option.{slice_get_read}
use Rattle.litmus_syntax.specs.Limits.{BodyKeepsLimits}
use Rattle.litmus_syntax.specs.Views.{task_of}
use Rattle.litmus_syntax.specs.declared.program.Task.{Task}
use Rattle.program_table.proofs.CountLemmas.{of_each}
use Rattle.program_table.proofs.counts.tasks_lines.Goals as goal

pub task_lines-requires : goal.task_lines-requires
task_lines-requires c =
    let tasks : List Task = c.args.tasks.now in
    let there : slice_get tasks c.loop-number.number ≡ Some c.index-tasks-number.result =
    slice_get_read tasks (length tasks) c.loop-number.number c.index-tasks-number.result refl c.loop-number-test.true c.index-tasks-number.is in
    of_each task_of (λ task. BodyKeepsLimits task.body) tasks c.loop-number.number c.index-tasks-number.result c.requires there
