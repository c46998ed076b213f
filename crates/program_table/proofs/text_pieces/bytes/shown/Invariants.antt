-- The bytes so far are shown.
use Rattle.std.proofs.Common.{◌≡◌, take}
use Rattle.program_table.specs.text_pieces.Shown as spec
use Rattle.program_table.proofs.text_pieces.bytes.shown.Given as goal

abbrev pub invariant-loop-byte : goal.invariant-loop-byte
invariant-loop-byte l = l.text.items ≡ spec.shown (take l.byte-index l.bytes)
