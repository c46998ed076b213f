-- The entries of a schedule, and whether one names a task that a program doesn't have.
use Rattle.std.specs.Prelude.{ℕ, List, Bool, nat_le}
use Rattle.std.specs.List.{list_any}
use Rattle.prepared_program.specs.declared.step_schedule.schedule.Entry.{Entry}
use Rattle.prepared_program.specs.declared.step_schedule.schedule.Schedule.{Schedule}

-- the entries of a schedule
abbrev pub entries_of : Schedule → List Entry
entries_of schedule = schedule.entries.items

-- entries name a task that isn't there in a program of so many tasks
abbrev pub names_stranger : ℕ → List Entry → Bool
names_stranger tasks entries = list_any (λ (entry : Entry). nat_le tasks entry.task) entries
