-- The pairs so far are those of the reports so far.
use Rattle.std.proofs.Common.{◌≡◌, take}
use Rattle.search_formats.proofs.pairs.pairs_of.Given as goal
use Rattle.search_formats.specs.Pairs.{pairs_of}

abbrev pub invariant-loop-report : goal.invariant-loop-report
invariant-loop-report l = l.pairs.items ≡ pairs_of l.sites (take l.report-index l.reports)
