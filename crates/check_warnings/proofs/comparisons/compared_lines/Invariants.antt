-- The lines so far, and those of the variables to come, are all.
use Rattle.std.proofs.Common.{◌≡◌, ◌++◌, drop, map}
use Rattle.litmus_syntax.specs.Views.{proposition_of, task_of}
use Rattle.check_warnings.specs.Comparisons.{variables_from}
use Rattle.check_warnings.proofs.comparisons.compared_lines.Given as goal

abbrev pub invariant-loop-number : goal.invariant-loop-number
invariant-loop-number l =
    l.lines.items
    ++ variables_from l.file (map task_of l.program.tasks) (proposition_of l.program.condition) l.number (drop l.number l.program.variables)
    ≡ variables_from l.file (map task_of l.program.tasks) (proposition_of l.program.condition) 0 l.program.variables
