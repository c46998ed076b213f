-- No variable so far has the bytes.
use Rattle.std.proofs.Common.{◌≡◌, List, drop}
use Rattle.litmus_semantics.specs.Layout.{VariablePlace, bytes_of_variable}
use Rattle.prepared_program.specs.program_layout.Lays.{Lays}
use Rattle.output_pieces.specs.Variables.{first_from, first_with, is_same}
use Rattle.output_pieces.proofs.variables.first_with.Given as goal

abbrev pub invariant-loop-number : goal.invariant-loop-number
invariant-loop-number l = (places : List VariablePlace) → Lays places l.variables l.layout
    → first_from (λ number. is_same (bytes_of_variable places l.variables number) l.bytes) l.number (drop l.number l.variables)
    ≡ first_with places l.variables l.bytes
