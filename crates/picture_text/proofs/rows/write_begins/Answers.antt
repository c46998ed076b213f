-- the bars are those of its task
use Rattle.report_text.proofs.SinkSteps.{writes_same}
use Rattle.picture_text.proofs.rows.write_begins.Goals as goal

pub returns : goal.returns
returns g c = writes_same g.K.Sink.written g.K.Sink.failures _ _ _ _ _
    (rw (c.task-task.ensures.value, c.access.ensures))
    c.write_bars.ensures
