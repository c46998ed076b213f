-- the pieces spell the outcome
use Rattle.std.proofs.Common.{append-nil}
use Rattle.report_text.proofs.SinkSteps.{writes_same}
use Rattle.picture_svg.proofs.captions.write_outcome.Goals as goal

pub returns : goal.returns
returns g c = writes_same g.K.Sink.written g.K.Sink.failures _ _ _ _ _
    (rw (c.colon-colon.ensures, c.tasks-tasks.ensures, c.reports-reports.ensures, c.discards-discards.ensures, append-nil c.args.behind.now, append-nil c.args.behind.now))
    c.write_parts.ensures
