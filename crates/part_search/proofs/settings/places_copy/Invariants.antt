-- The places so far are copied.
use Rattle.std.proofs.Common.{◌≡◌, take}
use Rattle.part_search.proofs.settings.places_copy.Given as goal

abbrev pub invariant-loop-place : goal.invariant-loop-place
invariant-loop-place l = l.copies.items ≡ take l.place-index l.places
