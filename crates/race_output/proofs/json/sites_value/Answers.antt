-- The values of the two, one behind the other.
use Rattle.std.proofs.Common.{◌∙◌, ◌++◌, ◌∷◌, [], List, ap, map}
use Rattle.race_output.specs.Json.{site_data, sites_data}
use Rattle.serde_json.specs.Data.{Data, array}
use Rattle.serde_json.specs.View.{items_of, view}
use Rattle.serde_json.specs.declared.value.Value.{Value}
use Rattle.race_output.proofs.json.sites_value.Goals as goal

pub returns : goal.returns
unfolding sites_data
returns c =
    let one = site_data c.args.text.now c.args.first in
    let other = site_data c.args.text.now c.args.second in
    c.array_value.ensures
    ∙ ap (λ (all : List Data). array (items_of all)) (c.in_ok-add_item-2.ensures other c.site_value-2.ensures
    ∙ ap (λ (all : List Data). all ++ other ∷ []) (c.in_ok-add_item.ensures one c.site_value.ensures
    ∙ ap (λ (all : List Value). map view all ++ one ∷ []) c.new-values.ensures.items))
