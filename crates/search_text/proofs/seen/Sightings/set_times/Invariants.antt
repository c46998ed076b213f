-- the counts so far are put in
use Rattle.std.proofs.Common.{◌≡◌, take}
use Rattle.search_text.specs.Counted.{with_counts}
use Rattle.search_text.proofs.seen.Sightings.set_times.Given as goal

abbrev pub invariant-loop-place : goal.invariant-loop-place
invariant-loop-place l = l.self ≡ with_counts (take l.place l.counts) l.fn.self
