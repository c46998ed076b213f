-- the text, and then the count
use Rattle.std.proofs.Common.{append_assoc}
use Rattle.report_text.specs.Groups.{group_text}
use Rattle.report_text.proofs.SinkSteps.{fails_first, writes_after, writes_error, writes_same}
use Rattle.report_text.proofs.groups.write_group.Goals as goal

pub returns : goal.returns
unfolding group_text
returns g c = writes_same g.K.Sink.written g.K.Sink.failures _ _ _ _ _
    (simp append_assoc)
    (writes_after g.K.Sink.written g.K.Sink.failures _ _ _ _ _ _ c.in_ok-write_all.ensures c.write_pieces.ensures)

pub returns-in_err-write_all : goal.returns-in_err-write_all
unfolding group_text
returns-in_err-write_all g c = writes_error g.K.Sink.written g.K.Sink.failures _ _ _ _ c.from_residual.ensures.0
    (fails_first g.K.Sink.written g.K.Sink.failures _ _ _ _ c.in_err-write_all.ensures)
