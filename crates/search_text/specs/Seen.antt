-- What is seen in lists, one after the other.
use Rattle.std.specs.Prelude.{◌∷◌, [], ℕ, List, if◌then◌else◌}
use Rattle.report_text.specs.Groups.{is_text, one_more}
use Rattle.search_text.specs.Times.{Sighting, Times}
use Rattle.prepared_program.specs.declared.step_schedule.schedule.Entry.{Entry}

-- in one list more, where a count rests at its last value
abbrev pub again : Times → Times
again times = (one_more times.0, times.1)

-- the sightings after a text was seen in a list of this schedule: a new text stands last
abbrev pub sighted : List Entry → List Sighting → List ℕ → List Sighting
sighted schedule [] text = (text, (1, schedule)) ∷ []
sighted schedule (sighting ∷ more) text = if is_text text sighting.0
    then (sighting.0, again sighting.1) ∷ more
    else sighting ∷ sighted schedule more text
