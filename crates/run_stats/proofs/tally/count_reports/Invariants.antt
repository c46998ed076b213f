-- The reports so far are counted.
use Rattle.std.proofs.Common.{◌≡◌, fold, map, take}
use Rattle.report_text.specs.Groups.{counted}
use Rattle.report_text.specs.ReportOf.{report_text}
use Rattle.run_stats.proofs.tally.count_reports.Given as goal

abbrev pub invariant-loop-report : goal.invariant-loop-report
invariant-loop-report l = l.groups ≡ fold counted l.fn.groups (map (report_text l.sites) (take l.report-index l.reports))
