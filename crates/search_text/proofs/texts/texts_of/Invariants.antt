-- The texts of the reports so far.
use Rattle.std.proofs.Common.{◌≡◌, map, take}
use Rattle.report_text.specs.Groups.{first_seen}
use Rattle.report_text.specs.ReportOf.{report_text}
use Rattle.search_text.specs.Texts.{texts_in}
use Rattle.search_text.proofs.texts.texts_of.Given as goal

abbrev pub invariant-loop-report : goal.invariant-loop-report
invariant-loop-report l = texts_in l.texts.items ≡ first_seen (map (report_text l.sites) (take l.report-index l.reports))
