-- one row more
use Rattle.std.proofs.Common.{arith}
use Rattle.std.proofs.lemmas.List.Elements.{All-from_recursion}
use Rattle.timeline.specs.picture.Rows.{IsRowOf}
use Rattle.timeline.specs.picture.Sound.{ReportHolds}
use Rattle.timeline.proofs.picture.Zips.{zip_next}
use Rattle.timeline.proofs.picture.rows.report_rows.Goals as goal

pub report_row-stamp-requires : goal.report_row-stamp-requires
report_row-stamp-requires c = (
  c.requires.0,
  c.requires.1,
  All-from_recursion (ReportHolds c.requires.0) c.args.reports.now c.requires.2 c.loop-report.report-index _ (omega arith),
)

pub loop-report-preserved : goal.loop-report-preserved
loop-report-preserved c = λ accesses named holds. rw c.in_ok-push.ensures.items
    (zip_next (IsRowOf accesses) c.args.reports.now c.loop-report.rows.items c.loop-report.report-index _ _ (omega arith)
    (c.loop-report.invariant accesses named holds)
    (c.report_row-stamp.ensures accesses named
    (All-from_recursion (ReportHolds accesses) c.args.reports.now holds c.loop-report.report-index _ (omega arith))))
