-- the pieces spell the line
use Rattle.std.proofs.Common.{append_assoc, append-nil}
use Rattle.report_text.proofs.SinkSteps.{writes_same}
use Rattle.picture_text.proofs.rows.write_values.Goals as goal

pub returns : goal.returns
returns g c = writes_same g.K.Sink.written g.K.Sink.failures _ _ _ _ _
    (simp (append_assoc, append-nil)) c.write_line.ensures
