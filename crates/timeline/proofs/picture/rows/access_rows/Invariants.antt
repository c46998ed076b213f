-- the rows of the accesses so far
use Rattle.std.proofs.Common.{◌≡◌, take}
use Rattle.std.specs.List.{flat_map}
use Rattle.timeline.specs.picture.Rows.{rows_of}
use Rattle.timeline.proofs.picture.rows.access_rows.Given as goal

abbrev pub invariant-loop-access : goal.invariant-loop-access
invariant-loop-access l = l.rows.items ≡ flat_map rows_of (take l.access-index l.accesses)
