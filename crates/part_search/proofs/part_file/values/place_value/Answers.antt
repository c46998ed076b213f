-- The members, one behind the other.
use Rattle.std.proofs.Common.{refl}
use Rattle.part_search.specs.part_file.Values.{place_data}
use Rattle.part_search.proofs.part_file.values.place_value.Goals as goal

pub returns : goal.returns
unfolding place_data
returns c = c.build.ensures _ (c.text.ensures _ _ (c.number.ensures _ _ c.new.ensures refl) c.as_str.ensures)
