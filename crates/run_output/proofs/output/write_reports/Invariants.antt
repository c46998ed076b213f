-- the reports so far are written
use Rattle.std.proofs.Common.{take}
use Rattle.std.specs.List.{flat_map}
use Rattle.report_text.specs.ReportOf.{report_text}
use Rattle.report_text.specs.Sink.{Takes}
use Rattle.run_output.proofs.output.write_reports.Given as goal

abbrev pub invariant-loop-report : goal.invariant-loop-report
invariant-loop-report g l =
    Takes g.K.Sink.written g.K.Sink.failures (flat_map (report_text l.sites) (take l.report-index l.reports)) l.fn.sink
    l.sink
