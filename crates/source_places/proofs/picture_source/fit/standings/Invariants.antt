-- those of the rows so far
use Rattle.std.proofs.Common.{◌≡◌, take}
use Rattle.source_places.specs.picture_source.Fit.{standings}
use Rattle.source_places.proofs.picture_source.fit.standings.Given as goal

abbrev pub invariant-loop-row : goal.invariant-loop-row
invariant-loop-row l = l.found.items ≡ standings l.sites (take l.row-index l.rows)
