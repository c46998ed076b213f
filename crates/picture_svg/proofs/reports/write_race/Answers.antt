-- the pieces spell the report
use Rattle.report_text.proofs.SinkSteps.{writes_same}
use Rattle.picture_svg.proofs.reports.write_race.Goals as goal

pub returns : goal.returns
returns g c = writes_same g.K.Sink.written g.K.Sink.failures _ _ _ _ _
    (rw (c.race_title-title.ensures, c.race_line-line.ensures, c.line_start-words.ensures, c.max.ensures, c.start-from.ensures, c.start-to.ensures, c.task.ensures.value, c.task-2.ensures.value, c.access.ensures, c.access-2.ensures))
    c.write_parts.ensures
