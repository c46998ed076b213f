-- The bytes that were passed are no braces.
use Rattle.std.proofs.Common.{◌≡◌, length}
use Rattle.check_notes.specs.Words.{ends_structure}
use Rattle.check_notes.proofs.words.ends_structure.Given as goal

abbrev pub invariant-loop-bytes : goal.invariant-loop-bytes
invariant-loop-bytes l = ends_structure l.bytes ≡ ends_structure l.initial.bytes

abbrev pub decreases-loop-bytes : goal.decreases-loop-bytes
decreases-loop-bytes l = length l.bytes
