-- The bytes that were passed are no such sign.
use Rattle.std.proofs.Common.{◌≡◌, length}
use Rattle.check_notes.specs.Notes.{ends_parameter}
use Rattle.check_notes.proofs.note.ends_parameter.Given as goal

abbrev pub invariant-loop-bytes : goal.invariant-loop-bytes
invariant-loop-bytes l = ends_parameter l.bytes ≡ ends_parameter l.initial.bytes

abbrev pub decreases-loop-bytes : goal.decreases-loop-bytes
decreases-loop-bytes l = length l.bytes
