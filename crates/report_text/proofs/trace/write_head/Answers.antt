-- each piece is what its call answered
use Rattle.std.proofs.Common.{append_assoc, append-nil}
use Rattle.report_text.specs.TraceText.{second_version, shape_line}
use Rattle.report_text.proofs.SinkSteps.{writes_same}
use Rattle.report_text.proofs.trace.write_head.Goals as goal

pub returns : goal.returns
unfolding second_version shape_line
returns g c = writes_same g.K.Sink.written g.K.Sink.failures _ _ _ _ _
    (simp (c.width_word.ensures, append_assoc, append-nil))
    c.write_pieces.ensures
