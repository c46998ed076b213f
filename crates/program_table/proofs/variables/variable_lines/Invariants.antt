-- The lines so far, and those of the variables to come, are all.
use Rattle.std.proofs.Common.{◌≡◌, ◌++◌, List, drop}
use Rattle.litmus_semantics.specs.Layout.{VariablePlace}
use Rattle.prepared_program.specs.program_layout.Lays.{Lays}
use Rattle.program_table.specs.Variables.{lines_from}
use Rattle.program_table.proofs.variables.variable_lines.Given as goal

abbrev pub invariant-loop-number : goal.invariant-loop-number
invariant-loop-number l = (places : List VariablePlace) → Lays places l.variables l.layout
    → l.lines.items ++ lines_from places l.variables l.number (drop l.number l.variables)
    ≡ lines_from places l.variables 0 l.variables
