-- The values so far are those of the places so far.
use Rattle.std.proofs.Common.{◌≡◌, map, take}
use Rattle.part_search.specs.part_file.Values.{place_data}
use Rattle.serde_json.specs.View.{view}
use Rattle.part_search.proofs.part_file.values.place_values.Given as goal

abbrev pub invariant-loop-place : goal.invariant-loop-place
invariant-loop-place l = map view l.values.items ≡ map place_data (take l.place-index l.places)
