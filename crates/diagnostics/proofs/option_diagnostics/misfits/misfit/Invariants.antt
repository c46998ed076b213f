-- The places so far suit the variables.
use Rattle.std.proofs.Common.{take}
use Rattle.prepared_program.specs.program_layout.Places.{AreFit}
use Rattle.diagnostics.proofs.option_diagnostics.misfits.misfit.Given as goal

abbrev pub invariant-loop-number : goal.invariant-loop-number
invariant-loop-number l = AreFit l.variables (take l.number l.places)
