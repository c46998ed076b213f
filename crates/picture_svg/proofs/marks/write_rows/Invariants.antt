-- those so far are drawn
use Rattle.std.proofs.Common.{take}
use Rattle.report_text.specs.Sink.{Takes}
use Rattle.picture_svg.specs.Marks.{rows_marks}
use Rattle.picture_svg.proofs.marks.write_rows.Given as goal

abbrev pub invariant-loop-place : goal.invariant-loop-place
invariant-loop-place g l =
    Takes g.K.Sink.written g.K.Sink.failures (rows_marks l.picture l.labels l.lanes 0 (take l.place l.picture.rows.items)) l.fn.sink l.sink
