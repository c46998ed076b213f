-- the rows of the reports so far
use Rattle.std.proofs.Common.{List, take}
use Rattle.std.specs.List.{AllByRecursion, AllZip}
use Rattle.access_types.specs.Stamped.{Stamped}
use Rattle.timeline.specs.picture.Named.{AreNamed}
use Rattle.timeline.specs.picture.Rows.{IsRowOf}
use Rattle.timeline.specs.picture.Sound.{ReportHolds}
use Rattle.timeline.proofs.picture.rows.report_rows.Given as goal

abbrev pub invariant-loop-report : goal.invariant-loop-report
invariant-loop-report l = (accesses : List Stamped) → AreNamed accesses l.named → AllByRecursion (ReportHolds accesses) l.reports
    → AllZip (IsRowOf accesses) (take l.report-index l.reports) l.rows.items
