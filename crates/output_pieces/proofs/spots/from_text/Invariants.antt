-- What was left out so far are blanks at the front.
use Rattle.std.proofs.Common.{◌≡◌, length}
use Rattle.output_pieces.specs.Spots as spec
use Rattle.output_pieces.proofs.spots.from_text.Given as goal

abbrev pub invariant-loop-bytes : goal.invariant-loop-bytes
invariant-loop-bytes l = spec.from_text l.bytes ≡ spec.from_text l.initial.bytes

abbrev pub decreases-loop-bytes : goal.decreases-loop-bytes
decreases-loop-bytes l = length l.bytes
