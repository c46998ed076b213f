use Rattle.std.proofs.Common.{arith}
use Rattle.report_text.specs.ReportOf.{report_text}
use Rattle.report_text.proofs.SinkSteps.{fails_at, writes_error}
use Rattle.run_output.proofs.output.write_reports.Goals as goal

pub returns-in_err-write_report : goal.returns-in_err-write_report
returns-in_err-write_report g c =
    writes_error g.K.Sink.written g.K.Sink.failures _ _ _ _ c.from_residual.ensures.0
    (fails_at g.K.Sink.written g.K.Sink.failures (report_text c.args.sites.now) c.args.reports.now
    c.loop-report.report-index _ _ _ _ (omega arith) c.loop-report.invariant c.in_err-write_report.ensures)
