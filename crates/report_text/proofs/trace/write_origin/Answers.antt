-- each piece is what its call answered
use Rattle.std.proofs.Common.{append_assoc, append-nil}
use Rattle.report_text.specs.Line.{spell_origin}
use Rattle.report_text.proofs.SinkSteps.{writes_same}
use Rattle.report_text.proofs.trace.write_origin.Goals as goal

pub returns : goal.returns
unfolding spell_origin
returns g c = writes_same g.K.Sink.written g.K.Sink.failures _ _ _ _ _
    (simp (c.name_in-setter.ensures, append_assoc, append-nil))
    c.write_parts.ensures
