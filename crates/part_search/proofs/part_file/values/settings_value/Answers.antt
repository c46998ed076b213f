-- The members, one behind the other.
use Rattle.std.proofs.Common.{refl}
use Rattle.part_search.specs.part_file.Values.{number_data, settings_data}
use Rattle.part_search.proofs.part_file.values.settings_value.Goals as goal

pub returns : goal.returns
unfolding settings_data
returns c =
    c.build.ensures _ (c.flag-5.ensures _ _ (c.flag-4.ensures _ _ (c.number-7.ensures _ _ (c.flag-3.ensures _ _ (c.number-6.ensures _ _
    (c.number-5.ensures _ _ (c.number-4.ensures _ _ (c.number-3.ensures _ _ (c.value.ensures _ (number_data c.args.settings.seconds)
    (c.flag-2.ensures _ _ (c.flag.ensures _ _ (c.number-2.ensures _ _ (c.number.ensures _ _ c.new.ensures c.bits_of.ensures) refl) refl)
    refl) c.number_value.ensures) refl) refl) refl) refl) refl) refl) refl) refl)
