-- The lines so far, and those of the tasks to come, are all.
use Rattle.std.proofs.Common.{◌≡◌, ◌++◌, drop}
use Rattle.program_table.specs.Counts.{lines_from}
use Rattle.program_table.proofs.counts.tasks_lines.Given as goal

abbrev pub invariant-loop-number : goal.invariant-loop-number
invariant-loop-number l =
    l.lines.items ++ lines_from l.accesses l.number (drop l.number l.tasks) ≡ lines_from l.accesses 0 l.tasks
