-- Those of the items of the member.
use Rattle.std.proofs.Common.{◌∙◌, Option, ap, map}
use Rattle.std.proofs.lemmas.Result.{IfOk-weaker}
use Rattle.part_search.proofs.part_file.Lists.{read_each, sighting_view}
use Rattle.part_search.specs.part_file.Reads.{list_in, sighting_in}
use Rattle.serde_json.specs.Data.{Items}
use Rattle.serde_json.specs.View.{view}
use Rattle.serde_json.specs.declared.value.Value.{Value}
use Rattle.part_search.proofs.part_file.reading.sightings_at.Goals as goal

pub returns-in-Some : goal.returns-in-Some
returns-in-Some c =
    IfOk-weaker c.sightings_of.result _ _ (λ all is. is
    ∙ ap (map (λ (value : Value). sighting_in (view value))) c.as_slice.ensures.value
    ∙ read_each sighting_in c.in-Some.items.now.items
    ∙ ap (λ (found : Option Items). map sighting_in (list_in found)) c.in-Some.ensures) c.sightings_of.ensures

pub returns-in-None : goal.returns-in-None
returns-in-None c = ap (map sighting_view) c.new.ensures.items ∙ ap (λ (found : Option Items). map sighting_in (list_in found)) c.in-None.ensures
