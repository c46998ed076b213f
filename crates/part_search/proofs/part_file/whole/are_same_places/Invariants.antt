-- The places so far are the same.
use Rattle.std.proofs.Common.{◌≡◌, take}
use Rattle.part_search.proofs.part_file.whole.are_same_places.Given as goal

abbrev pub invariant-loop-place : goal.invariant-loop-place
invariant-loop-place l = take l.place l.ones ≡ take l.place l.others
