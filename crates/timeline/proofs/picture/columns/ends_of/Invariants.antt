-- when those so far end
use Rattle.std.proofs.Common.{◌≡◌, take}
use Rattle.timeline.specs.picture.Columns.{ends_in}
use Rattle.timeline.proofs.picture.columns.ends_of.Given as goal

abbrev pub invariant-loop-access : goal.invariant-loop-access
invariant-loop-access l = l.ends.items ≡ ends_in (take l.access-index l.accesses) l.task
