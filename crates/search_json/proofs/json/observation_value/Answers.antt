-- The members, one behind the other.
use Rattle.std.proofs.Common.{refl}
use Rattle.search_json.specs.Json.{observation_data}
use Rattle.search_json.proofs.json.observation_value.Goals as goal

pub returns : goal.returns
unfolding observation_data
returns c =
    c.build.ensures _ (c.text-2.ensures _ _ (c.number-2.ensures _ _ (c.number.ensures _ _ (c.text.ensures _ _ c.new.ensures refl) refl) refl)
    c.word.ensures)
