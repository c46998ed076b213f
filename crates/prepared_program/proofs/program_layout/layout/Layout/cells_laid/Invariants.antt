-- The cells so far, and those of the variables to come, are all.
use Rattle.std.proofs.Common.{◌≡◌, [], drop, fold}
use Rattle.litmus_semantics.specs.Layout.{with_cell}
use Rattle.prepared_program.proofs.program_layout.layout.Layout.cells_laid.Given as goal

abbrev pub invariant-loop-variable : goal.invariant-loop-variable
invariant-loop-variable l =
    fold with_cell l.cells.items (drop l.variable-index l.self.variables.items) ≡ fold with_cell [] l.self.variables.items
