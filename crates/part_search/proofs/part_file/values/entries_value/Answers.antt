-- The values of the entries, as one.
use Rattle.std.proofs.Common.{◌∙◌, List, ap}
use Rattle.serde_json.specs.Data.{Data, array}
use Rattle.serde_json.specs.View.{items_of}
use Rattle.part_search.proofs.part_file.values.entries_value.Goals as goal

pub returns : goal.returns
returns c = c.array_value.ensures ∙ ap (λ (all : List Data). array (items_of all)) c.in_ok-values.ensures
