-- the accesses so far stand by their tickets
use Rattle.std.proofs.Common.{ℕ, take}
use Rattle.std.specs.BTreeMap.{get}
use Rattle.std.specs.Ordering.{nat_cmp}
use Rattle.timeline.proofs.picture.Tickets.{Says}
use Rattle.timeline.proofs.picture.named.Named.new.Given as goal

abbrev pub invariant-loop-access : goal.invariant-loop-access
invariant-loop-access l = (ticket : ℕ) → Says (take l.access-index l.accesses) ticket (get nat_cmp l.by_ticket ticket)
