-- The two numbers, one behind the other.
use Rattle.std.proofs.Common.{◌∙◌, ◌++◌, ◌∷◌, [], List, ap, map}
use Rattle.serde_json.specs.Data.{Data, array, number, unsigned}
use Rattle.serde_json.specs.View.{items_of, view}
use Rattle.serde_json.specs.declared.value.Value.{Value}
use Rattle.part_search.proofs.part_file.values.entry_value.Goals as goal

pub returns : goal.returns
returns c =
    let task = number (unsigned c.args.entry.task) in
    let steps = number (unsigned c.args.entry.steps) in
    c.array_value.ensures
    ∙ ap (λ (all : List Data). array (items_of all)) (c.in_ok-add_item-2.ensures steps c.from-2.ensures
    ∙ ap (λ (all : List Data). all ++ steps ∷ []) (c.in_ok-add_item.ensures task c.from.ensures
    ∙ ap (λ (all : List Value). map view all ++ task ∷ []) c.new-values.ensures.items))
