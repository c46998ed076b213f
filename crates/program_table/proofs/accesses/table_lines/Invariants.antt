-- The lines so far, and those of the tasks to come, are all.
use Rattle.std.proofs.Common.{◌≡◌, ◌++◌, drop, map}
use Rattle.std.specs.List.{flat_map}
use Rattle.litmus_syntax.specs.Views.{task_of}
use Rattle.program_table.specs.Accesses.{line_of}
use Rattle.program_table.specs.Rows.{rows_from}
use Rattle.program_table.specs.Words.{AreWords}
use Rattle.program_table.proofs.accesses.table_lines.Given as goal

abbrev pub invariant-loop-number : goal.invariant-loop-number
invariant-loop-number l = (words : AreWords l.listed.layout) → l.lines.items ++ flat_map (line_of l.table)
    (rows_from l.listed.text.now (map (λ own. own.items) l.listed.places.now) words.of l.listed.sites.now l.number (drop l.number (map task_of l.program.tasks)))
    ≡ flat_map (line_of l.table)
    (rows_from l.listed.text.now (map (λ own. own.items) l.listed.places.now) words.of l.listed.sites.now 0 (map task_of l.program.tasks))
