-- the pieces spell the line
use Rattle.report_text.proofs.SinkSteps.{writes_same}
use Rattle.picture_text.proofs.Spelled.{end_line_is}
use Rattle.picture_text.proofs.rows.write_end.Goals as goal

pub returns : goal.returns
returns g c = writes_same g.K.Sink.written g.K.Sink.failures _ _ _ _ _
    (end_line_is c.args.style c.args.columns.now c.args.stamp c.args.stamped.now _ _ c.place_of-place.ensures (rw c.access.ensures at c.task-task.ensures.value))
    c.write_line.ensures
