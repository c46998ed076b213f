-- The marks are those of the pairs so far.
use Rattle.std.proofs.Common.{take}
use Rattle.race_page.specs.Marks.{AreMarks}
use Rattle.race_page.proofs.marks.marks_of.Given as goal

abbrev pub invariant-loop-one : goal.invariant-loop-one
invariant-loop-one l = AreMarks (take l.one-index l.pairs) l.len l.marks.items
