-- The value of the file is that of its pairs.
use Rattle.std.proofs.Common.{◌∙◌, List, ap, map}
use Rattle.race_output.specs.Json.{file_data, pair_data, whole_data}
use Rattle.serde_json.specs.Data.{Data, array}
use Rattle.serde_json.specs.View.{items_of}
use Rattle.race_output.proofs.json.file_value.Goals as goal

pub returns : goal.returns
unfolding file_data
returns c = λ run of.
    c.in_ok-value.ensures
    ∙ (ap (λ (pairs : Data). whole_data c.args.name.now pairs c.args.settings.now c.args.found.now) c.array_value-pairs.ensures
    ∙ ap (λ (all : List Data). whole_data c.args.name.now (array (items_of all)) c.args.settings.now c.args.found.now)
    (c.in_ok-pairs.ensures run of ∙ ap (map (pair_data run _ _)) c.as_slice.ensures.value))
