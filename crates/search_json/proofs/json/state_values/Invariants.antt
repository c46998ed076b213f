-- The values so far are those of the states so far.
use Rattle.std.proofs.Common.{◌≡◌, map, take}
use Rattle.search_json.proofs.json.state_values.Given as goal
use Rattle.search_json.specs.Json.{state_data}
use Rattle.search_text.specs.Times.{Sighting}
use Rattle.serde_json.specs.View.{view}

abbrev pub invariant-loop-place : goal.invariant-loop-place
invariant-loop-place l =
    map view l.values.items ≡ map (λ (sighting : Sighting). state_data sighting.0 sighting.1.0) (take l.place l.states)
