-- The members, one behind the other.
use Rattle.std.proofs.Common.{refl}
use Rattle.std.proofs.lemmas.Result.{IfOk-weaker}
use Rattle.part_search.specs.part_file.Values.{findings_data, known_data}
use Rattle.part_search.proofs.part_file.values.findings_value.Goals as goal

pub returns : goal.returns
unfolding findings_data
returns c =
    IfOk-weaker c.build.result _ _ (λ value is. (is, c.in_ok-known.ensures.1))
    (c.build.ensures _ (c.value-4.ensures _ _ (c.value-3.ensures _ _ (c.number-3.ensures _ _ (c.value-2.ensures _ _
    (c.value.ensures _ (known_data c.args.found.now.known.items) (c.number-2.ensures _ _ (c.number.ensures _ _ c.new.ensures refl) refl)
    c.in_ok-known.ensures.0) c.sightings_value.ensures) refl) c.sightings_value-2.ensures) c.stuck_value.ensures))
