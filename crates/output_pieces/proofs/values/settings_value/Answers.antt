-- The members, one behind the other.
use Rattle.std.proofs.Common.{refl}
use Rattle.output_pieces.specs.Values.{settings_data}
use Rattle.output_pieces.proofs.values.settings_value.Goals as goal

pub returns : goal.returns
unfolding settings_data
returns c =
    c.build.ensures _ (c.flag-3.ensures _ _ (c.number-4.ensures _ _ (c.number-3.ensures _ _ (c.number-2.ensures _ _ (c.number.ensures _ _
    (c.flag-2.ensures _ _ (c.flag.ensures _ _ c.new.ensures refl) refl) refl) refl) refl) refl) refl)
