-- the pieces spell the report
use Rattle.report_text.proofs.SinkSteps.{writes_same}
use Rattle.picture_svg.proofs.reports.write_origin.Goals as goal

pub returns : goal.returns
returns g c = writes_same g.K.Sink.written g.K.Sink.failures _ _ _ _ _
    (rw (c.origin_title-title.ensures, c.line_start-first.ensures, c.line_start-second.ensures, c.line_start-third.ensures, c.value_words-from.ensures, c.value_words-to.ensures, c.start-x.ensures, c.task.ensures.value, c.access.ensures))
    c.write_parts.ensures
