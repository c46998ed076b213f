-- Each setting is the one that is told.
use Rattle.std.proofs.Common.{◌∙◌, refl, sym}
use Rattle.part_search.proofs.settings.settings_of_part.Goals as goal

pub returns : goal.returns
returns c = record { settings_are = refl; places_are = sym (c.in_ok-places.ensures ∙ c.as_slice.ensures.value) }
