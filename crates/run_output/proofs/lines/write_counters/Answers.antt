-- the pieces spell the line
use Rattle.std.proofs.Common.{append_assoc, append-nil}
use Rattle.report_text.proofs.SinkSteps.{writes_same}
use Rattle.run_output.specs.Lines.{counters_line}
use Rattle.run_output.proofs.lines.write_counters.Goals as goal

pub returns : goal.returns
unfolding counters_line
returns g c = writes_same g.K.Sink.written g.K.Sink.failures _ _ _ _ _
    (simp (append_assoc, append-nil)) c.write_parts.ensures
