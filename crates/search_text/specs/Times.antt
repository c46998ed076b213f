-- What is kept of something that is seen in lists.
use Rattle.std.specs.Prelude.{ℕ, List}
use Rattle.prepared_program.specs.declared.step_schedule.schedule.Entry.{Entry}

-- in how many lists it is, and the schedule of the first
abbrev pub Times : Type 0
Times = ℕ × List Entry

-- a text, in how many lists it is, and the schedule of the first
abbrev pub Sighting : Type 0
Sighting = List ℕ × Times
