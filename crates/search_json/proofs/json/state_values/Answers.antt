-- The value of one state more stands behind the others.
use Rattle.std.proofs.Common.{◌∙◌, ℕ, ap, map}
use Rattle.search_json.proofs.Taken.{mapped_more}
use Rattle.search_json.proofs.json.state_values.Goals as goal
use Rattle.search_json.specs.Json.{state_data}
use Rattle.search_text.specs.Times.{Sighting}
use Rattle.serde_json.specs.View.{view}

pub loop-place-preserved : goal.loop-place-preserved
loop-place-preserved c =
    let value = state_data c.in-Some.state.now c.times.result in
    c.in_ok-add_item-in-Some.ensures value c.state_value.ensures
    ∙ mapped_more (λ (sighting : Sighting). state_data sighting.0 sighting.1.0) c.args.states.now c.loop-place.place
    (c.in-Some.state.now, c.in-Some.seen.now) (map view c.loop-place.values.items) value c.loop-place.invariant
    (ap (λ (times : ℕ). state_data c.in-Some.state.now times) c.times.ensures) c.in-Some.ensures
