-- One text more has one value more.
use Rattle.std.proofs.Common.{◌≡◌, ◌∙◌, ◌++◌, List, ap, arith, map}
use Rattle.std.proofs.lemmas.List.{map-append}
use Rattle.output_pieces.proofs.Grown.{grown}
use Rattle.part_search.proofs.part_file.Lists.{sighting_view}
use Rattle.part_search.specs.part_file.Values.{sighting_data}
use Rattle.search_text.specs.declared.joined.SeenText.{SeenText}
use Rattle.part_search.proofs.part_file.values.sighting_values.Goals as goal

splits : (a b : List SeenText)
    → map sighting_data (map sighting_view (a ++ b)) ≡ map sighting_data (map sighting_view a) ++ map sighting_data (map sighting_view b)
splits a b = ap (map sighting_data) (map-append sighting_view a b) ∙ map-append sighting_data (map sighting_view a) (map sighting_view b)

pub loop-one-preserved : goal.loop-one-preserved
loop-one-preserved c =
    c.in_ok-add_item.ensures (sighting_data (sighting_view c.one-item.result)) c.sighting_value.ensures
    ∙ grown (λ (all : List SeenText). map sighting_data (map sighting_view all)) splits c.args.all.now c.loop-one.one-index c.one-item.result
    (omega arith) c.one-item.is _ c.loop-one.invariant
