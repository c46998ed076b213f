-- The lines so far are those before, and those of the sites so far.
use Rattle.std.proofs.Common.{◌≡◌, ◌++◌, map}
use Rattle.std.specs.List.{flat_map}
use Rattle.program_table.specs.Accesses.{line_of}
use Rattle.program_table.specs.Rows.{rows_of_task}
use Rattle.program_table.specs.Words.{AreWords}
use Rattle.program_table.proofs.accesses.add_task.Given as goal

abbrev pub invariant-loop-site : goal.invariant-loop-site
invariant-loop-site l = (words : AreWords l.listed.layout) → l.lines.items ≡ l.initial.lines.items ++ flat_map (line_of l.table)
    (rows_of_task l.listed.text.now (map (λ own. own.items) l.listed.places.now) words.of l.listed.sites.now l.task l.site)
