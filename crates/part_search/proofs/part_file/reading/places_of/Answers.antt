-- Of one value more one more is read.
use Rattle.std.proofs.Common.{◌∙◌, ◌++◌, ◌∷◌, [], ap, arith}
use Rattle.part_search.proofs.part_file.Lists.{read_more}
use Rattle.part_search.specs.part_file.Reads.{place_in}
use Rattle.prepared_program.specs.declared.program_layout.place.Place.{Place}
use Rattle.part_search.proofs.part_file.reading.places_of.Goals as goal

pub loop-value-preserved : goal.loop-value-preserved
loop-value-preserved c =
    read_more place_in c.args.values.now c.loop-value.value-index c.value-item.result _ _ (omega arith) c.value-item.is
    (c.in_ok-push.ensures.items ∙ ap (λ (one : Place). c.loop-value.places.items ++ one ∷ []) c.in_ok-place.ensures) c.loop-value.invariant
