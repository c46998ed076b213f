-- The members, one behind the other.
use Rattle.std.proofs.Common.{refl}
use Rattle.race_output.specs.Json.{states_data}
use Rattle.race_output.proofs.json.states_value.Goals as goal

pub returns : goal.returns
unfolding states_data
returns c = c.build.ensures _ (c.number-2.ensures _ _ (c.number.ensures _ _ c.new.ensures refl) refl)
