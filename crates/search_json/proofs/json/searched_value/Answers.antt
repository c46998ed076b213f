-- The members, one behind the other.
use Rattle.std.proofs.Common.{◌∙◌, ap}
use Rattle.search_json.specs.Json.{nodes_of, searched_data, states_of}
use Rattle.search_json.specs.Reports.{count_data, number_data}
use Rattle.search_json.proofs.json.searched_value.Goals as goal

pub returns : goal.returns
unfolding searched_data
returns c =
    let extent = c.args.extent in
    c.build.ensures _ (c.value-3.ensures _ (number_data (states_of extent)) (c.value-2.ensures _ (count_data extent.bounded c.args.searched)
    (c.value.ensures _ (number_data (nodes_of extent)) c.new.ensures (c.number_value.ensures ∙ ap number_data c.nodes_of.ensures))
    c.count_value.ensures) (c.number_value-2.ensures ∙ ap number_data c.states_of.ensures))
