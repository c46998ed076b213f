-- An item that spells an entry is read.
use Rattle.std.proofs.Common.{◌∷◌, [], List, ap, arith, length, length-append, refl, ℕ}
use Rattle.diagnostics.specs.option_diagnostics.Schedules.{Reads}
use Rattle.prepared_program.specs.step_schedule.Spelling.{SpellsEntry}
use Rattle.prepared_program.specs.declared.step_schedule.schedule.Entry.{Entry}

pub entry_is_read : (item : List ℕ) (entry : Entry) → SpellsEntry item entry → Reads item
entry_is_read item entry spelled = record {
  some = omega (arith, ap length spelled.parts, length-append spelled.before (120 ∷ spelled.after));
  entries = entry ∷ [];
  spelled = record { items = item ∷ []; joined = refl; each = (spelled, tt) };
}
