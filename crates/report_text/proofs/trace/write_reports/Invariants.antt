-- the lines so far are written
use Rattle.std.proofs.Common.{take}
use Rattle.std.specs.List.{flat_map}
use Rattle.report_text.specs.Line.{spell_report}
use Rattle.report_text.specs.Sink.{Takes}
use Rattle.report_text.proofs.trace.write_reports.Given as goal

abbrev pub invariant-loop-report : goal.invariant-loop-report
invariant-loop-report g l =
    Takes g.K.Sink.written g.K.Sink.failures (flat_map spell_report (take l.report-index l.reports)) l.fn.sink l.sink
