-- the lines so far are kept, and the others stand in the rest
use Rattle.std.proofs.Common.{◌≡◌, ◌++◌, List, length}
use Rattle.report_text.specs.declared.line.Line.{Line}
use Rattle.timeline.specs.picture.Parts.{ArePartsOf, AreSpelled}
use Rattle.timeline.proofs.picture.parts.read_parts.Given as goal

abbrev pub invariant-loop-line : goal.invariant-loop-line
invariant-loop-line l = (all : List Line) → AreSpelled all l.fn.bytes
    → (done : List Line) × (todo : List Line) × (all ≡ done ++ todo) × AreSpelled todo l.rest × ArePartsOf done l.parts

abbrev pub decreases-loop-line : goal.decreases-loop-line
decreases-loop-line l = length l.rest
