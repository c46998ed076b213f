-- the pieces spell the stamp
use Rattle.std.proofs.Common.{append_assoc, append-nil}
use Rattle.report_text.proofs.SinkSteps.{writes_same}
use Rattle.picture_text.proofs.lines.write_stamp.Goals as goal

pub returns : goal.returns
returns g c = writes_same g.K.Sink.written g.K.Sink.failures _ _ _ _ _
    (simp (c.fill.ensures, c.gap.ensures, append_assoc, append-nil)) c.write_pieces.ensures
