-- Of one value more one more is read.
use Rattle.std.proofs.Common.{◌∙◌, ◌++◌, ◌∷◌, [], ap, arith, map}
use Rattle.std.proofs.lemmas.List.{map-append}
use Rattle.part_search.proofs.part_file.Lists.{read_more, sighting_view}
use Rattle.part_search.specs.part_file.Reads.{sighting_in}
use Rattle.search_text.specs.Times.{Sighting}
use Rattle.part_search.proofs.part_file.reading.sightings_of.Goals as goal

pub loop-value-preserved : goal.loop-value-preserved
loop-value-preserved c =
    let all = c.loop-value.all.items in
    read_more sighting_in c.args.values.now c.loop-value.value-index c.value-item.result _ _ (omega arith) c.value-item.is
    (ap (map sighting_view) c.in_ok-push.ensures.items ∙ map-append sighting_view all (c.in_ok-one.one ∷ [])
    ∙ ap (λ (one : Sighting). map sighting_view all ++ one ∷ []) c.in_ok-one.ensures) c.loop-value.invariant
