-- one item more, or a failure within it
use Rattle.std.proofs.Common.{List, arith, take}
use Rattle.std.specs.List.{flat_map}
use Rattle.picture_svg.specs.Watches.{watch_text}
use Rattle.report_text.specs.Sink.{Takes}
use Rattle.timeline.specs.declared.picture.watches.Watch.{Watch}
use Rattle.timeline.proofs.picture.Steps.{next_too}
use Rattle.report_text.proofs.SinkSteps.{fails_item, takes_more, writes_error}
use Rattle.picture_svg.proofs.watches.write_watches.Goals as goal

pub loop-watch-preserved : goal.loop-watch-preserved
loop-watch-preserved g c =
    let so_far = take c.loop-watch.watch-index c.args.watches.now in
    next_too (λ (items : List Watch). Takes g.K.Sink.written g.K.Sink.failures (flat_map (watch_text c.args.lanes.now c.args.rows.now) items) c.args.sink.now c.write_watch.new.sink)
    c.args.watches.now c.loop-watch.watch-index _ (omega arith) c.watch-item.is
    (takes_more g.K.Sink.written g.K.Sink.failures (watch_text c.args.lanes.now c.args.rows.now) so_far _ _ _ _ c.loop-watch.invariant c.in_ok-write_watch.ensures)

pub returns-in_err-write_watch : goal.returns-in_err-write_watch
returns-in_err-write_watch g c =
    writes_error g.K.Sink.written g.K.Sink.failures _ _ _ _ c.from_residual.ensures.0
    (fails_item g.K.Sink.written g.K.Sink.failures (watch_text c.args.lanes.now c.args.rows.now) c.args.watches.now c.loop-watch.watch-index _ _ _ _
    (omega arith) c.watch-item.is c.loop-watch.invariant c.in_err-write_watch.ensures)
