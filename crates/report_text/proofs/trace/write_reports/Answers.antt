use Rattle.std.proofs.Common.{arith}
use Rattle.report_text.specs.Line.{spell_report}
use Rattle.report_text.proofs.SinkSteps.{fails_at, writes_error}
use Rattle.report_text.proofs.trace.write_reports.Goals as goal

pub returns-in_err-write_report_line : goal.returns-in_err-write_report_line
returns-in_err-write_report_line g c =
    writes_error g.K.Sink.written g.K.Sink.failures _ _ _ _ c.from_residual.ensures.0
    (fails_at g.K.Sink.written g.K.Sink.failures spell_report c.args.reports.now c.loop-report.report-index _ _ _ _
    (omega arith) c.loop-report.invariant c.in_err-write_report_line.ensures)
