-- One place more has one value more.
use Rattle.std.proofs.Common.{◌∙◌, arith, map}
use Rattle.std.proofs.lemmas.List.{map-append}
use Rattle.output_pieces.proofs.Grown.{grown}
use Rattle.part_search.specs.part_file.Values.{place_data}
use Rattle.part_search.proofs.part_file.values.place_values.Goals as goal

pub loop-place-preserved : goal.loop-place-preserved
loop-place-preserved c =
    c.in_ok-add_item.ensures (place_data c.place-item.result) c.place_value.ensures
    ∙ grown (map place_data) (map-append place_data) c.args.places.now c.loop-place.place-index c.place-item.result
    (omega arith) c.place-item.is _ c.loop-place.invariant
