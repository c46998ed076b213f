-- Behind no byte that was left out so far does a statement begin, and what is left is no longer than all.
use Rattle.std.proofs.Common.{◌≡◌, ◌≤◌, length}
use Rattle.output_pieces.specs.Spots as spec
use Rattle.output_pieces.proofs.spots.up_to_start.Given as goal

abbrev pub invariant-loop-bytes : goal.invariant-loop-bytes
invariant-loop-bytes l = (spec.up_to_start l.bytes ≡ spec.up_to_start l.initial.bytes) × (length l.bytes ≤ length l.initial.bytes)

abbrev pub decreases-loop-bytes : goal.decreases-loop-bytes
decreases-loop-bytes l = length l.bytes
