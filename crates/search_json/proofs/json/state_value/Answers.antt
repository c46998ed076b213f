-- The members, one behind the other.
use Rattle.std.proofs.Common.{refl}
use Rattle.search_json.specs.Json.{state_data}
use Rattle.search_json.proofs.json.state_value.Goals as goal

pub returns : goal.returns
unfolding state_data
returns c = c.build.ensures _ (c.value.ensures _ _ (c.number.ensures _ _ c.new.ensures refl) c.text_value.ensures)
