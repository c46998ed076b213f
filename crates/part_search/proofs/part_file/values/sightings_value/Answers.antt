-- The values of the texts, as one.
use Rattle.std.proofs.Common.{◌∙◌, List, ap, map}
use Rattle.part_search.proofs.part_file.Lists.{sighting_view}
use Rattle.part_search.specs.part_file.Values.{sighting_data}
use Rattle.search_text.specs.declared.joined.SeenText.{SeenText}
use Rattle.serde_json.specs.Data.{Data, array}
use Rattle.serde_json.specs.View.{items_of}
use Rattle.part_search.proofs.part_file.values.sightings_value.Goals as goal

pub returns : goal.returns
returns c =
    c.array_value.ensures
    ∙ ap (λ (all : List Data). array (items_of all)) (c.in_ok-values.ensures
    ∙ ap (λ (all : List SeenText). map sighting_data (map sighting_view all)) c.as_slice.ensures.value)
