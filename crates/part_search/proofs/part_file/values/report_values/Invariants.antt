-- The values so far are those of the reports so far, which are read of them.
use Rattle.std.proofs.Common.{◌≡◌, map, take}
use Rattle.part_search.specs.part_file.Reads.{report_in}
use Rattle.part_search.specs.part_file.Values.{report_data}
use Rattle.serde_json.specs.View.{view}
use Rattle.part_search.proofs.part_file.values.report_values.Given as goal

abbrev pub invariant-loop-report : goal.invariant-loop-report
invariant-loop-report l =
    (map view l.values.items ≡ map report_data (take l.report-index l.reports))
    × (map report_in (map report_data (take l.report-index l.reports)) ≡ take l.report-index l.reports)
