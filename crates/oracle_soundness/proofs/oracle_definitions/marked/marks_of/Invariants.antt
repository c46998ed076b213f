-- the marks of the moments that the loop has passed
use Rattle.std.proofs.Common.{◌≡◌, take}
use Rattle.access_types.specs.Marked.{marks_of}
use Rattle.oracle_soundness.proofs.oracle_definitions.marked.marks_of.Given as goal

abbrev pub invariant-loop-moment : goal.invariant-loop-moment
invariant-loop-moment l = l.marks.items ≡ marks_of l.task (take l.moment-index l.history)
