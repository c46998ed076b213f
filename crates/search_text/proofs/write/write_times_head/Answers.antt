-- the pieces spell the line
use Rattle.std.proofs.Common.{append_assoc, append-nil}
use Rattle.report_text.proofs.SinkSteps.{writes_same}
use Rattle.search_text.specs.Write.{count_text, times_head}
use Rattle.search_text.proofs.write.write_times_head.Goals as goal

pub returns : goal.returns
unfolding count_text times_head
returns g c = writes_same g.K.Sink.written g.K.Sink.failures _ _ _ _ _
    (simp (c.at_least.ensures, append_assoc, append-nil)) c.write_pieces.ensures
