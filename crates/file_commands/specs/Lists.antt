-- Which lists on the command line read.
use Rattle.std.specs.Prelude.{ℕ, List}
use Rattle.prepared_program.specs.place_list.Spelling as places
use Rattle.prepared_program.specs.declared.program_layout.place.Place.{Place}
use Rattle.prepared_program.specs.step_schedule.Spelling as schedules
use Rattle.prepared_program.specs.declared.step_schedule.schedule.Entry.{Entry}

-- the text spells no places, or no schedule
abbrev pub SpellsNoPlaces : List ℕ → Type 0
SpellsNoPlaces text = (given : List Place) → places.Spells text given → ⊥

abbrev pub SpellsNoSchedule : List ℕ → Type 0
SpellsNoSchedule text = (entries : List Entry) → schedules.Spells text entries → ⊥

-- the text spells a schedule
abbrev pub SpellsSchedule : List ℕ → Type 0
SpellsSchedule text = (entries : List Entry) × schedules.Spells text entries
