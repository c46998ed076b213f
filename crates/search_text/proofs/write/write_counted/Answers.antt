-- each part is what its call left, up to the one that failed
use Rattle.report_text.proofs.SinkSteps.{fails_first, writes_after, writes_error}
use Rattle.search_text.proofs.write.write_counted.Goals as goal

pub returns-in_err-write_reports : goal.returns-in_err-write_reports
returns-in_err-write_reports g c =
    writes_error g.K.Sink.written g.K.Sink.failures _ _ _ _ c.from_residual.ensures.0
    (fails_first g.K.Sink.written g.K.Sink.failures _ _ _ _ c.in_err-write_reports.ensures)

pub returns : goal.returns
returns g c = writes_after g.K.Sink.written g.K.Sink.failures _ _ _ _ _ _ c.in_ok-write_reports.ensures c.write_stuck.ensures
