-- What is read so far is that of the values so far.
use Rattle.std.proofs.Common.{◌≡◌, map, take}
use Rattle.part_search.specs.part_file.Reads.{place_in}
use Rattle.serde_json.specs.View.{view}
use Rattle.part_search.proofs.part_file.reading.places_of.Given as goal

abbrev pub invariant-loop-value : goal.invariant-loop-value
invariant-loop-value l = l.places.items ≡ map (λ value. place_in (view value)) (take l.value-index l.values)
