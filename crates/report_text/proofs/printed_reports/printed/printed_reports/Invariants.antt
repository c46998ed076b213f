-- Those so far that aren't hidden.
use Rattle.std.proofs.Common.{◌≡◌, take}
use Rattle.std.specs.List.{filter}
use Rattle.report_text.specs.printed_reports.Printed.{is_printed}
use Rattle.report_text.proofs.printed_reports.printed.printed_reports.Given as goal

abbrev pub invariant-loop-report : goal.invariant-loop-report
invariant-loop-report l = l.printed.items ≡ filter (is_printed l.unknown l.sites) (take l.report-index l.reports)
