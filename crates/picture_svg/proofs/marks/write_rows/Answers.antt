-- one row more, or a failure within it
use Rattle.std.proofs.Common.{arith}
use Rattle.report_text.proofs.SinkSteps.{writes_error}
use Rattle.picture_svg.proofs.Drawn.{fails_row, takes_row}
use Rattle.picture_svg.proofs.marks.write_rows.Goals as goal

pub loop-place-preserved : goal.loop-place-preserved
loop-place-preserved g c =
    takes_row c.args.picture.now c.args.labels.now c.args.lanes.now g.K.Sink.written g.K.Sink.failures c.args.picture.now.rows.items c.loop-place.place _ _ _ _
    (omega arith) (rw c.deref-row-items.ensures.value at c.row-item.is) c.loop-place.invariant c.in_ok-write_row.ensures

pub returns-in_err-write_row : goal.returns-in_err-write_row
returns-in_err-write_row g c =
    writes_error g.K.Sink.written g.K.Sink.failures _ _ _ _ c.from_residual.ensures.0
    (fails_row c.args.picture.now c.args.labels.now c.args.lanes.now g.K.Sink.written g.K.Sink.failures c.args.picture.now.rows.items c.loop-place.place _ _ _ _
    (omega arith) (rw c.deref-row-items.ensures.value at c.row-item.is) c.loop-place.invariant c.in_err-write_row.ensures)
