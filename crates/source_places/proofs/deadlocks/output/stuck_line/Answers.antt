-- None begins there either.
use Rattle.std.proofs.Common.{◌∙◌, below_more, sym}
use Rattle.source_places.proofs.deadlocks.output.stuck_line.Goals as goal

pub loop-start-preserved : goal.loop-start-preserved
loop-start-preserved c = below_more _ _ c.loop-start.invariant (sym c.begins_stuck.ensures ∙ c.if-begins_stuck.false)
