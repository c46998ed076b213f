-- each part is what its call answered
use Rattle.std.proofs.Common.{append_assoc, append-nil}
use Rattle.access_types.specs.ReportText.{paragraph, two_sided_text}
use Rattle.report_text.proofs.SinkSteps.{writes_same}
use Rattle.report_text.proofs.report.write_two_sided.Goals as goal

pub returns : goal.returns
unfolding two_sided_text paragraph
returns g c = writes_same g.K.Sink.written g.K.Sink.failures _ _ _ _ _
    (simp (
      c.rule.ensures,
      c.rule-2.ensures,
      c.two_sided_title-title.ensures,
      c.access_line-found.ensures,
      c.site_line-found_at.ensures,
      c.access_line-watched.ensures,
      c.site_line-watched_at.ensures,
      c.seen_lines-change.ensures,
      c.size.ensures.value,
      append_assoc,
      append-nil,
    ))
    c.write_parts.ensures
