-- the pieces spell the line
use Rattle.std.proofs.Common.{append_assoc, append-nil}
use Rattle.report_text.proofs.SinkSteps.{writes_same}
use Rattle.litmus_command.specs.Replay.{second_line}
use Rattle.litmus_command.proofs.replay.write_second.Goals as goal

pub returns : goal.returns
unfolding second_line
returns g c = writes_same g.K.Sink.written g.K.Sink.failures _ _ _ _ _
    (simp (append_assoc, append-nil)) c.write_pieces.ensures
