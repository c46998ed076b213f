-- The value of a part has no float, and its arrays and objects nest six deep at most.
use Rattle.std.proofs.Common.{◌≡◌, ◌≤◌, ◌∷◌, [], ℕ, List, None, Option, Some, arith, false, map, refl}
use Rattle.access_types.specs.declared.report.Report.{Report}
use Rattle.output_pieces.proofs.Floats.{none_of}
use Rattle.part_search.specs.part_file.Values.{entries_data, entry_data, findings_data, known_data, number_data, part_data, place_data, places_data}
use Rattle.part_search.specs.part_file.Values.{report_data, settings_data, sighting_data, sightings_data, stopped_data, stuck_data, text_data, times_data}
use Rattle.part_search.specs.part_file.Views.{FindingsView, PartView}
use Rattle.part_search.specs.declared.part_file.part.PartSettings.{PartSettings}
use Rattle.prepared_program.specs.declared.program_layout.place.Place.{Place}
use Rattle.prepared_program.specs.declared.step_schedule.schedule.Entry.{Entry}
use Rattle.search_text.specs.Times.{Sighting, Times}
use Rattle.search_text.specs.declared.stopped.Stopped.{Stopped}
use Rattle.search_text.specs.declared.stopped.Stopped.TheVariants.{AfterSeconds, AtLimit, No}
use Rattle.serde_json.specs.Data.{Data, depth, items_depth}
use Rattle.serde_json.specs.View.{items_of}
use Rattle.serde_json.specs.Written.{has_float}

-- ---- no float

number_none : (n : Option ℕ) → has_float (number_data n) ≡ false
number_none None = refl
number_none (Some n) = refl

text_none : (text : Option (List ℕ)) → has_float (text_data text) ≡ false
text_none None = refl
text_none (Some text) = refl

entry_none : (entry : Entry) → has_float (entry_data entry) ≡ false
entry_none entry = refl

entries_none : (entries : List Entry) → has_float (entries_data entries) ≡ false
entries_none entries = none_of entry_data entries entry_none

times_none : (seen : Times) → has_float (times_data seen) ≡ false
unfolding times_data
times_none seen = rw (entries_none seen.1) refl

sighting_none : (one : Sighting) → has_float (sighting_data one) ≡ false
unfolding sighting_data
sighting_none one = rw (entries_none one.1.1) refl

sightings_none : (all : List Sighting) → has_float (sightings_data all) ≡ false
sightings_none all = none_of sighting_data all sighting_none

stuck_none : (stuck : Option Times) → has_float (stuck_data stuck) ≡ false
stuck_none None = refl
stuck_none (Some seen) = times_none seen

report_none : (report : Report) → has_float (report_data report) ≡ false
unfolding report_data
report_none report = simp number_none

known_none : (known : List Report) → has_float (known_data known) ≡ false
known_none known = none_of report_data known report_none

findings_none : (found : FindingsView) → has_float (findings_data found) ≡ false
unfolding findings_data
findings_none found =
    rw (known_none found.known, sightings_none found.reports, sightings_none found.states, stuck_none found.stuck) refl

settings_none : (settings : PartSettings) → has_float (settings_data settings) ≡ false
unfolding settings_data
settings_none settings = simp number_none

place_none : (place : Place) → has_float (place_data place) ≡ false
unfolding place_data
place_none place = refl

places_none : (places : List Place) → has_float (places_data places) ≡ false
places_none places = none_of place_data places place_none

stopped_none : (stopped : Stopped) → has_float (stopped_data stopped) ≡ false
stopped_none No = refl
stopped_none AtLimit = refl
stopped_none (AfterSeconds seconds) = refl

pub part_none : (part : PartView) → has_float (part_data part) ≡ false
unfolding part_data
part_none part =
    rw (findings_none part.found, places_none part.places, settings_none part.settings, stopped_none part.stopped, text_none part.trace) refl

-- ---- how deep it nests

items_shallow : {A : Type 0} (f : A → Data) (n : ℕ) → ((x : A) → depth (f x) ≤ n) → (xs : List A)
    → items_depth (items_of (map f xs)) ≤ n
items_shallow f n each [] = omega arith
items_shallow f n each (x ∷ xs) = omega (arith, each x, items_shallow f n each xs)

number_flat : (n : Option ℕ) → depth (number_data n) ≡ 0
number_flat None = refl
number_flat (Some n) = refl

text_flat : (text : Option (List ℕ)) → depth (text_data text) ≡ 0
text_flat None = refl
text_flat (Some text) = refl

entry_shallow : (entry : Entry) → depth (entry_data entry) ≤ 1
entry_shallow entry = omega arith

entries_shallow : (entries : List Entry) → depth (entries_data entries) ≤ 2
entries_shallow entries = omega (arith, items_shallow entry_data 1 entry_shallow entries)

times_shallow : (seen : Times) → depth (times_data seen) ≤ 3
unfolding times_data
times_shallow seen = omega (arith, entries_shallow seen.1)

sighting_shallow : (one : Sighting) → depth (sighting_data one) ≤ 3
unfolding sighting_data
sighting_shallow one = omega (arith, entries_shallow one.1.1)

sightings_shallow : (all : List Sighting) → depth (sightings_data all) ≤ 4
sightings_shallow all = omega (arith, items_shallow sighting_data 3 sighting_shallow all)

stuck_shallow : (stuck : Option Times) → depth (stuck_data stuck) ≤ 3
stuck_shallow None = omega arith
stuck_shallow (Some seen) = times_shallow seen

report_shallow : (report : Report) → depth (report_data report) ≤ 1
unfolding report_data
report_shallow report = simp number_flat (omega arith)

known_shallow : (known : List Report) → depth (known_data known) ≤ 2
known_shallow known = omega (arith, items_shallow report_data 1 report_shallow known)

findings_shallow : (found : FindingsView) → depth (findings_data found) ≤ 5
unfolding findings_data
findings_shallow found =
    omega (arith, known_shallow found.known, sightings_shallow found.reports, sightings_shallow found.states, stuck_shallow found.stuck)

settings_shallow : (settings : PartSettings) → depth (settings_data settings) ≤ 1
unfolding settings_data
settings_shallow settings = simp number_flat (omega arith)

place_shallow : (place : Place) → depth (place_data place) ≤ 1
unfolding place_data
place_shallow place = omega arith

places_shallow : (places : List Place) → depth (places_data places) ≤ 2
places_shallow places = omega (arith, items_shallow place_data 1 place_shallow places)

stopped_flat : (stopped : Stopped) → depth (stopped_data stopped) ≡ 0
stopped_flat No = refl
stopped_flat AtLimit = refl
stopped_flat (AfterSeconds seconds) = refl

pub part_shallow : (part : PartView) → depth (part_data part) ≤ 6
unfolding part_data
part_shallow part =
    omega (arith, findings_shallow part.found, places_shallow part.places, settings_shallow part.settings, stopped_flat part.stopped, text_flat part.trace)
