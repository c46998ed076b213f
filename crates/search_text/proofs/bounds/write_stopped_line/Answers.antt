-- the pieces spell the line
use Rattle.std.proofs.Common.{append_assoc, append-nil}
use Rattle.report_text.proofs.SinkSteps.{writes_same}
use Rattle.search_text.specs.Write.{stopped_line}
use Rattle.search_text.proofs.bounds.write_stopped_line.Goals as goal

pub returns : goal.returns
unfolding stopped_line
returns g c = writes_same g.K.Sink.written g.K.Sink.failures _ _ _ _ _
    (simp (append_assoc, append-nil)) c.write_pieces.ensures
