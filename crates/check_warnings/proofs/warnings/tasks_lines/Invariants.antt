-- The lines so far, and those of the tasks to come, are all.
use Rattle.std.proofs.Common.{◌≡◌, ◌++◌, drop, map}
use Rattle.litmus_syntax.specs.Views.{proposition_of, task_of}
use Rattle.check_warnings.specs.Warnings.{tasks_from}
use Rattle.check_warnings.proofs.warnings.tasks_lines.Given as goal

abbrev pub invariant-loop-number : goal.invariant-loop-number
invariant-loop-number l =
    l.lines.items
    ++ tasks_from l.file l.program.variables (proposition_of l.program.condition) l.number (map task_of (drop l.number l.tasks))
    ≡ tasks_from l.file l.program.variables (proposition_of l.program.condition) 0 (map task_of l.tasks)
