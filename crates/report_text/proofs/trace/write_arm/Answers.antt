-- each piece is what its call answered
use Rattle.std.proofs.Common.{append_assoc, append-nil}
use Rattle.report_text.specs.Line.{spell_arm}
use Rattle.report_text.proofs.SinkSteps.{writes_same}
use Rattle.report_text.proofs.trace.write_arm.Goals as goal

pub returns : goal.returns
unfolding spell_arm
returns g c = writes_same g.K.Sink.written g.K.Sink.failures _ _ _ _ _
    (simp (
      c.name_in-setter.ensures,
      c.outcome_words-outcome.ensures,
      c.setter.ensures,
      c.outcome.ensures,
      c.number.ensures,
      c.index.ensures,
      c.watch_word.ensures,
      append_assoc,
      append-nil,
    ))
    c.write_parts.ensures
