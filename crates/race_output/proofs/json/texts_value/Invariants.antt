-- The values so far are those of the texts so far.
use Rattle.std.proofs.Common.{◌≡◌, map, take}
use Rattle.output_pieces.specs.Values.{text_data}
use Rattle.race_output.specs.Reasons.{texts}
use Rattle.serde_json.specs.View.{view}
use Rattle.race_output.proofs.json.texts_value.Given as goal

abbrev pub invariant-loop-one : goal.invariant-loop-one
invariant-loop-one l = map view l.values.items ≡ map text_data (texts (take l.one-index l.all))
