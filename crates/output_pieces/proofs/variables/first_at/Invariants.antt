-- No variable so far stands at the address.
use Rattle.std.proofs.Common.{◌≡◌, List, drop}
use Rattle.std.specs.Prelude.{◌==◌}
use Rattle.litmus_semantics.specs.Layout.{VariablePlace, bytes_of_variable}
use Rattle.prepared_program.specs.program_layout.Lays.{Lays}
use Rattle.output_pieces.specs.Variables.{first_at, first_from}
use Rattle.output_pieces.proofs.variables.first_at.Given as goal

abbrev pub invariant-loop-number : goal.invariant-loop-number
invariant-loop-number l = (places : List VariablePlace) → Lays places l.variables l.layout
    → first_from (λ number. (bytes_of_variable places l.variables number).addr == l.addr) l.number (drop l.number l.variables)
    ≡ first_at places l.variables l.addr
