-- those so far are written
use Rattle.std.proofs.Common.{take}
use Rattle.std.specs.List.{flat_map}
use Rattle.report_text.specs.Sink.{Takes}
use Rattle.picture_svg.specs.Svg.{heading}
use Rattle.picture_svg.proofs.write.write_headings.Given as goal

abbrev pub invariant-loop-column : goal.invariant-loop-column
invariant-loop-column g l =
    Takes g.K.Sink.written g.K.Sink.failures (flat_map (heading l.lanes) (take l.column-index l.columns)) l.fn.sink l.sink
