-- no access that writes was found so far
use Rattle.oracle_soundness.specs.oracle_races.Shown.{Writes}
use Rattle.oracle_soundness.proofs.oracle_races.Searches.{AllBefore, BeginsNone}
use Rattle.oracle_soundness.proofs.oracle_races.masks.site_writes.Given as goal

-- none of those that began at the site writes
abbrev pub invariant-loop-moment : goal.invariant-loop-moment
invariant-loop-moment l = AllBefore (BeginsNone l.site (Writes l.history)) l.history l.moment-index
