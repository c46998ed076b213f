-- The lines on the waits so far.
use Rattle.std.proofs.Common.{take}
use Rattle.source_places.proofs.deadlocks.lines.wait_lines.Given as goal
use Rattle.source_places.specs.deadlocks.Lines.{AreWaitLines}

abbrev pub invariant-loop-wait : goal.invariant-loop-wait
invariant-loop-wait l =
    AreWaitLines l.sources.variables.now l.sources.file.now l.sources.text.now (take l.wait-index l.waits) l.text.items
