-- What was left out so far are blanks at the end.
use Rattle.std.proofs.Common.{◌≡◌, length}
use Rattle.output_pieces.specs.Spots as spec
use Rattle.output_pieces.proofs.spots.without_blanks.Given as goal

abbrev pub invariant-loop-bytes : goal.invariant-loop-bytes
invariant-loop-bytes l = spec.without_blanks l.bytes ≡ spec.without_blanks l.initial.bytes

abbrev pub decreases-loop-bytes : goal.decreases-loop-bytes
decreases-loop-bytes l = length l.bytes
