-- the pieces spell the line
use Rattle.std.proofs.Common.{append_assoc, append-nil}
use Rattle.report_text.proofs.SinkSteps.{writes_same}
use Rattle.run_output.specs.Lines.{stuck_line}
use Rattle.run_output.proofs.lines.write_stuck.Goals as goal

pub returns : goal.returns
unfolding stuck_line
returns g c = writes_same g.K.Sink.written g.K.Sink.failures _ _ _ _ _
    (simp (append_assoc, append-nil)) c.write_pieces.ensures
