-- those so far are written
use Rattle.std.proofs.Common.{take}
use Rattle.std.specs.List.{flat_map}
use Rattle.report_text.specs.Sink.{Takes}
use Rattle.picture_svg.specs.Watches.{taking_text}
use Rattle.picture_svg.proofs.watches.write_takings.Given as goal

abbrev pub invariant-loop-taking : goal.invariant-loop-taking
invariant-loop-taking g l =
    Takes g.K.Sink.written g.K.Sink.failures (flat_map (taking_text l.lanes l.rows) (take l.taking-index l.takings)) l.fn.sink l.sink
