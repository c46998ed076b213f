-- What the variables so far lay down.
use Rattle.std.proofs.Common.{◌≡◌, take}
use Rattle.access_types.specs.History.{initial_memory}
use Rattle.prepared_program.proofs.program_layout.layout.Layout.byte_at.Given as goal

abbrev pub invariant-loop-bytes : goal.invariant-loop-bytes
invariant-loop-bytes l = l.byte ≡ initial_memory (take l.bytes-index l.self.variables.items) l.address
