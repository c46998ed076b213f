-- one item more, or a failure within it
use Rattle.std.proofs.Common.{List, arith, take}
use Rattle.std.specs.List.{flat_map}
use Rattle.picture_svg.specs.Watches.{taking_text}
use Rattle.report_text.specs.Sink.{Takes}
use Rattle.timeline.specs.declared.picture.watches.Taking.{Taking}
use Rattle.timeline.proofs.picture.Steps.{next_too}
use Rattle.report_text.proofs.SinkSteps.{fails_item, takes_more, writes_error}
use Rattle.picture_svg.proofs.watches.write_takings.Goals as goal

pub loop-taking-preserved : goal.loop-taking-preserved
loop-taking-preserved g c =
    let so_far = take c.loop-taking.taking-index c.args.takings.now in
    next_too (λ (items : List Taking). Takes g.K.Sink.written g.K.Sink.failures (flat_map (taking_text c.args.lanes.now c.args.rows.now) items) c.args.sink.now c.write_taking.new.sink)
    c.args.takings.now c.loop-taking.taking-index _ (omega arith) c.taking-item.is
    (takes_more g.K.Sink.written g.K.Sink.failures (taking_text c.args.lanes.now c.args.rows.now) so_far _ _ _ _ c.loop-taking.invariant c.in_ok-write_taking.ensures)

pub returns-in_err-write_taking : goal.returns-in_err-write_taking
returns-in_err-write_taking g c =
    writes_error g.K.Sink.written g.K.Sink.failures _ _ _ _ c.from_residual.ensures.0
    (fails_item g.K.Sink.written g.K.Sink.failures (taking_text c.args.lanes.now c.args.rows.now) c.args.takings.now c.loop-taking.taking-index _ _ _ _
    (omega arith) c.taking-item.is c.loop-taking.invariant c.in_err-write_taking.ensures)
