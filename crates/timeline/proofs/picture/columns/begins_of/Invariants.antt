-- when those so far begin
use Rattle.std.proofs.Common.{◌≡◌, take}
use Rattle.timeline.specs.picture.Columns.{begins_in}
use Rattle.timeline.proofs.picture.columns.begins_of.Given as goal

abbrev pub invariant-loop-access : goal.invariant-loop-access
invariant-loop-access l = l.begins.items ≡ begins_in (take l.access-index l.accesses) l.task
