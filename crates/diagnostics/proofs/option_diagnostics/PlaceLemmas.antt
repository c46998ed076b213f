-- An item that spells a place is read.
use Rattle.std.proofs.Common.{◌∷◌, [], List, ap, arith, length, length-append, refl, ℕ}
use Rattle.diagnostics.specs.option_diagnostics.Places.{Reads}
use Rattle.prepared_program.specs.place_list.Spelling.{SpellsPlace}
use Rattle.prepared_program.specs.declared.program_layout.place.Place.{Place}

pub place_is_read : (item : List ℕ) (place : Place) → SpellsPlace item place → Reads item
place_is_read item place spelled = record {
  some = omega (arith, ap length spelled.parts, length-append place.name (61 ∷ spelled.address));
  places = place ∷ [];
  spelled = record { items = item ∷ []; joined = refl; each = (spelled, tt) };
}
