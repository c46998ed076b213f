-- What is kept of accesses by their tickets.
use Rattle.std.specs.Prelude.{ℕ, List, MatchOption}
use Rattle.std.specs.BTreeMap.{get}
use Rattle.std.specs.Ordering.{nat_cmp}
use Rattle.access_types.specs.Stamped.{Stamped}
use Rattle.trace_replay.specs.Accesses.{IsNamed}
use Rattle.timeline.specs.declared.picture.named.Named.{Named}

-- by each ticket stands an access that it names among these, and nothing where it names none
pub record AreNamed (accesses : List Stamped) (named : Named) : Type 0 where
  pub found : (ticket : ℕ) → MatchOption (get nat_cmp named.by_ticket ticket) ((s : Stamped) → ¬ IsNamed accesses ticket s) (IsNamed accesses ticket)
