-- The values so far are those of the texts so far.
use Rattle.std.proofs.Common.{◌≡◌, map, take}
use Rattle.part_search.proofs.part_file.Lists.{sighting_view}
use Rattle.part_search.specs.part_file.Values.{sighting_data}
use Rattle.serde_json.specs.View.{view}
use Rattle.part_search.proofs.part_file.values.sighting_values.Given as goal

abbrev pub invariant-loop-one : goal.invariant-loop-one
invariant-loop-one l = map view l.values.items ≡ map sighting_data (map sighting_view (take l.one-index l.all))
