-- one item more, or a failure within it
use Rattle.std.proofs.Common.{List, arith, take}
use Rattle.std.specs.List.{flat_map}
use Rattle.picture_svg.specs.Svg.{heading}
use Rattle.report_text.specs.Sink.{Takes}
use Rattle.timeline.specs.declared.picture.columns.Column.{Column}
use Rattle.timeline.proofs.picture.Steps.{next_too}
use Rattle.report_text.proofs.SinkSteps.{fails_item, takes_more, writes_error}
use Rattle.picture_svg.proofs.write.write_headings.Goals as goal

pub loop-column-preserved : goal.loop-column-preserved
loop-column-preserved g c =
    let so_far = take c.loop-column.column-index c.args.columns.now in
    next_too (λ (items : List Column). Takes g.K.Sink.written g.K.Sink.failures (flat_map (heading c.args.lanes.now) items) c.args.sink.now c.write_heading.new.sink)
    c.args.columns.now c.loop-column.column-index _ (omega arith) c.column-item.is
    (takes_more g.K.Sink.written g.K.Sink.failures (heading c.args.lanes.now) so_far _ _ _ _ c.loop-column.invariant c.in_ok-write_heading.ensures)

pub returns-in_err-write_heading : goal.returns-in_err-write_heading
returns-in_err-write_heading g c =
    writes_error g.K.Sink.written g.K.Sink.failures _ _ _ _ c.from_residual.ensures.0
    (fails_item g.K.Sink.written g.K.Sink.failures (heading c.args.lanes.now) c.args.columns.now c.loop-column.column-index _ _ _ _
    (omega arith) c.column-item.is c.loop-column.invariant c.in_err-write_heading.ensures)
