-- No report so far has the text.
use Rattle.std.proofs.Common.{◌≡◌, drop}
use Rattle.search_json.proofs.reports.report_with.Given as goal
use Rattle.search_json.specs.Reports.{report_with}

abbrev pub invariant-loop-report : goal.invariant-loop-report
invariant-loop-report l = report_with l.sites l.reports l.text ≡ report_with l.sites (drop l.report-index l.reports) l.text
