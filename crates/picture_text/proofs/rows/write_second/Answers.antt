-- the pieces spell the line
use Rattle.report_text.proofs.SinkSteps.{writes_same}
use Rattle.picture_text.proofs.rows.write_second.Goals as goal

pub returns : goal.returns
returns g c = writes_same g.K.Sink.written g.K.Sink.failures _ _ _ _ _
    (rw (c.site_words-site.ensures))
    c.write_line.ensures
