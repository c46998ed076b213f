-- each part is what its call left, up to the one that failed
use Rattle.std.proofs.Common.{◌≡◌, ◌++◌, ap, rules, if◌then◌else◌}
use Rattle.std.specs.List.{flat_map}
use Rattle.report_text.specs.ReportOf.{report_text}
use Rattle.report_text.proofs.SinkSteps.{fails_first, fails_second, takes_both, writes_after, writes_error, writes_same}
use Rattle.run_output.specs.Lines.{condition_line, counters_line}
use Rattle.run_output.proofs.output.write_output.Goals as goal

pub returns-in_err-write_reports : goal.returns-in_err-write_reports
returns-in_err-write_reports g c =
    writes_error g.K.Sink.written g.K.Sink.failures _ _ _ _ c.from_residual.ensures.0
    (fails_first g.K.Sink.written g.K.Sink.failures _ _ _ _
    (fails_first g.K.Sink.written g.K.Sink.failures _ _ _ _ c.in_err-write_reports.ensures))

pub returns-in_err-write_counters : goal.returns-in_err-write_counters
returns-in_err-write_counters g c =
    writes_error g.K.Sink.written g.K.Sink.failures _ _ _ _ c.from_residual-in_err-write_counters.ensures.0
    (fails_first g.K.Sink.written g.K.Sink.failures _ _ _ _
    (fails_second g.K.Sink.written g.K.Sink.failures _ _ _ _ _ c.in_ok-write_reports.ensures
    c.in_err-write_counters.ensures))

pub returns : goal.returns
returns g c =
    let held : c.from.result ≡ (if c.args.found.now.held then 1 else 0) = search rules in
    writes_same g.K.Sink.written g.K.Sink.failures _ _ _ _ _
    (ap (λ n. flat_map (report_text c.args.sites.now) c.args.reports.now
    ++ counters_line c.args.found.now.counters c.args.found.now.unbalanced ++ condition_line n 1) held)
    (writes_after g.K.Sink.written g.K.Sink.failures _ _ _ _ _ _
    (takes_both g.K.Sink.written g.K.Sink.failures _ _ _ _ _ c.in_ok-write_reports.ensures
    c.in_ok-write_counters.ensures) c.write_condition.ensures)
