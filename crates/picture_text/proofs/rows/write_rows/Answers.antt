-- one item more, or a failure within it
use Rattle.std.proofs.Common.{List, arith, take}
use Rattle.std.specs.List.{flat_map}
use Rattle.picture_text.specs.Rows.{row_text}
use Rattle.report_text.specs.Sink.{Takes}
use Rattle.timeline.specs.declared.picture.rows.Row.{Row}
use Rattle.timeline.proofs.picture.Steps.{next_too}
use Rattle.report_text.proofs.SinkSteps.{fails_item, takes_more, writes_error}
use Rattle.picture_text.proofs.rows.write_rows.Goals as goal

pub loop-row-preserved : goal.loop-row-preserved
loop-row-preserved g c =
    let so_far = take c.loop-row.row-index c.args.rows.now in
    next_too (λ (items : List Row). Takes g.K.Sink.written g.K.Sink.failures (flat_map (row_text c.args.style c.args.columns.now c.args.labels.now) items) c.args.sink.now c.write_row.new.sink)
    c.args.rows.now c.loop-row.row-index _ (omega arith) c.row-item.is
    (takes_more g.K.Sink.written g.K.Sink.failures (row_text c.args.style c.args.columns.now c.args.labels.now) so_far _ _ _ _ c.loop-row.invariant c.in_ok-write_row.ensures)

pub returns-in_err-write_row : goal.returns-in_err-write_row
returns-in_err-write_row g c =
    writes_error g.K.Sink.written g.K.Sink.failures _ _ _ _ c.from_residual.ensures.0
    (fails_item g.K.Sink.written g.K.Sink.failures (row_text c.args.style c.args.columns.now c.args.labels.now) c.args.rows.now c.loop-row.row-index _ _ _ _
    (omega arith) c.row-item.is c.loop-row.invariant c.in_err-write_row.ensures)
