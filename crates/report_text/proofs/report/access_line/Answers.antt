-- each piece is what its call answered
use Rattle.std.proofs.Common.{append_assoc}
use Rattle.access_types.specs.ReportText.{access_line}
use Rattle.report_text.proofs.report.access_line.Goals as goal

pub returns : goal.returns
unfolding access_line
returns c = rw (c.words.ensures, c.kind.ensures, c.addr.ensures.value, c.size.ensures.value, c.task.ensures.value)
    (simp append_assoc)
