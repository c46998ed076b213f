-- What was passed is no part of it.
use Rattle.std.proofs.Common.{◌≡◌, length}
use Rattle.check_notes.specs.Words.{without_signs}
use Rattle.check_notes.proofs.words.without_signs.Given as goal

abbrev pub invariant-loop-bytes : goal.invariant-loop-bytes
invariant-loop-bytes l = without_signs l.bytes ≡ without_signs l.initial.bytes

abbrev pub decreases-loop-bytes : goal.decreases-loop-bytes
decreases-loop-bytes l = length l.bytes
