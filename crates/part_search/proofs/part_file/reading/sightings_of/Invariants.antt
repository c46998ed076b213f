-- What is read so far is that of the values so far.
use Rattle.std.proofs.Common.{◌≡◌, map, take}
use Rattle.part_search.proofs.part_file.Lists.{sighting_view}
use Rattle.part_search.specs.part_file.Reads.{sighting_in}
use Rattle.serde_json.specs.View.{view}
use Rattle.part_search.proofs.part_file.reading.sightings_of.Given as goal

abbrev pub invariant-loop-value : goal.invariant-loop-value
invariant-loop-value l = map sighting_view l.all.items ≡ map (λ value. sighting_in (view value)) (take l.value-index l.values)
