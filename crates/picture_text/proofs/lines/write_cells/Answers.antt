-- one item more, or a failure within it
use Rattle.std.proofs.Common.{arith, subst, sym}
use Rattle.timeline.specs.picture.Running.{IsInOrder}
use Rattle.picture_text.specs.Lines.{column_text}
use Rattle.report_text.proofs.SinkSteps.{fails_item, writes_error}
use Rattle.picture_text.proofs.lines.write_cells.Goals as goal

pub write_column-requires : goal.write_column-requires
write_column-requires g c =
    subst IsInOrder (sym c.column-item.is) (c.requires c.loop-column.column-index c.column-item.result (omega arith))

pub returns-in_err-write_column : goal.returns-in_err-write_column
returns-in_err-write_column g c =
    writes_error g.K.Sink.written g.K.Sink.failures _ _ _ _ c.from_residual.ensures.0
    (fails_item g.K.Sink.written g.K.Sink.failures (column_text c.args.style c.args.shape c.args.stamp) c.args.columns.now c.loop-column.column-index _ _ _ _
    (omega arith) c.column-item.is c.loop-column.invariant c.in_err-write_column.ensures)
