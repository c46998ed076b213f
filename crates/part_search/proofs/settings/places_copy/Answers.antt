-- One place more is copied.
use Rattle.std.proofs.Common.{◌∙◌, ◌++◌, ◌∷◌, [], ap, arith}
use Rattle.part_search.proofs.Lists.{copied_more}
use Rattle.prepared_program.specs.declared.program_layout.place.Place.{Place}
use Rattle.part_search.proofs.settings.places_copy.Goals as goal

pub loop-place-preserved : goal.loop-place-preserved
loop-place-preserved c =
    copied_more c.args.places.now c.loop-place.place-index c.place-item.result _ _ (omega arith) c.place-item.is
    (c.in_ok-push.ensures.items ∙ ap (λ (one : Place). c.loop-place.copies.items ++ one ∷ []) c.in_ok-copy.ensures) c.loop-place.invariant
