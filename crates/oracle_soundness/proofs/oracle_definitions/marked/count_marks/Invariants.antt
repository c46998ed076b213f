-- those of the kind that the loop has passed
use Rattle.std.proofs.Common.{◌≡◌, count_by, take}
use Rattle.oracle_soundness.specs.oracle_definitions.Kinds.{is_of}
use Rattle.oracle_soundness.proofs.oracle_definitions.marked.count_marks.Given as goal

abbrev pub invariant-loop-mark : goal.invariant-loop-mark
invariant-loop-mark l = l.count ≡ count_by (is_of l.kind) (take l.mark-index l.marks)
