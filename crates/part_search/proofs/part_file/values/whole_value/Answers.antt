-- The members, one behind the other.
use Rattle.std.proofs.Common.{refl}
use Rattle.part_search.specs.part_file.Values.{findings_data, part_data, stopped_data}
use Rattle.part_search.specs.part_file.Views.{findings_view}
use Rattle.part_search.proofs.part_file.values.whole_value.Goals as goal

pub returns : goal.returns
unfolding part_data
returns c = λ found.
    c.build.ensures _ (c.value-6.ensures _ _ (c.value-5.ensures _ _ (c.value-4.ensures _ (stopped_data c.args.part.now.stopped)
    (c.value-3.ensures _ _ (c.value-2.ensures _ _ (c.number-3.ensures _ _ (c.number-2.ensures _ _ (c.number.ensures _ _
    (c.value.ensures _ (findings_data (findings_view c.args.part.now.found)) (c.text-2.ensures _ _ (c.text.ensures _ _ c.new.ensures
    c.as_str.ensures.value) refl) found) refl) refl) refl) c.places_value.ensures) c.settings_value.ensures) c.stopped_value.ensures)
    c.bytes_value.ensures) c.bytes_if_value.ensures)
