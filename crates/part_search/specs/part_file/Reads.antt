-- The part of a search that is read of a value of JSON. A member that isn't there, or is of another kind, reads as
-- nothing: as 0, as false, as a text or a list with nothing in it.
use Rattle.std.specs.Prelude.{◌==◌, ◌^◌, [], ◌∷◌, ℕ, Bool, List, None, Option, Some, codes, false, if◌then◌else◌, map, nat_lt, option_and_then, option_map, unwrap_or}
use Rattle.access_types.specs.declared.report.Report.{Report}
use Rattle.access_types.specs.declared.report.Report.TheVariants.{Two, Unknown}
use Rattle.access_types.specs.declared.report.ValueChange.{ValueChange}
use Rattle.part_search.specs.part_file.Views.{FindingsView, PartView}
use Rattle.part_search.specs.declared.part_file.part.PartSettings.{PartSettings}
use Rattle.prepared_program.specs.declared.program_layout.place.Place.{Place}
use Rattle.prepared_program.specs.declared.step_schedule.schedule.Entry.{Entry}
use Rattle.search_text.specs.Times.{Sighting, Times}
use Rattle.search_text.specs.declared.stopped.Stopped.{Stopped}
use Rattle.search_text.specs.declared.stopped.Stopped.TheVariants.{AfterSeconds, AtLimit, No}
use Rattle.serde_json.specs.Data.{Data, Items, item, no_items}
use Rattle.serde_json.specs.Find.{as_array, as_bool, as_number, as_str, as_u64, at, get}
use Rattle.watch_word.specs.declared.layout.Layout.{Layout}
use Rattle.watch_word.specs.declared.layout.Layout.TheVariants.{W32, W64}

-- what a member is: a number, true or false, a text, another value; the value itself where it has no such member
abbrev pub number_if_at : (key : List ℕ) → Data → Option ℕ
number_if_at key value = option_and_then as_u64 (option_and_then as_number (get key value))

abbrev pub number_at : (key : List ℕ) → Data → ℕ
number_at key value = unwrap_or (number_if_at key value) 0

abbrev pub flag_at : (key : List ℕ) → Data → Bool
flag_at key value = unwrap_or (option_and_then as_bool (get key value)) false

abbrev pub text_if_at : (key : List ℕ) → Data → Option (List ℕ)
text_if_at key value = option_and_then as_str (get key value)

abbrev pub text_at : (key : List ℕ) → Data → List ℕ
text_at key value = unwrap_or (text_if_at key value) []

abbrev pub member_at : (key : List ℕ) → Data → Data
member_at key value = unwrap_or (get key value) value

-- the items of an array
abbrev pub data_list : Items → List Data
data_list no_items = []
data_list (item first more) = first ∷ data_list more

abbrev pub list_in : Option Items → List Data
list_in None = []
list_in (Some items) = data_list items

abbrev pub array_at : (key : List ℕ) → Data → Option Items
array_at key value = option_and_then as_array (get key value)

abbrev pub items_at : (key : List ℕ) → Data → List Data
items_at key value = list_in (array_at key value)

-- the number that an item of an array is
abbrev pub number_item : (place : ℕ) → Data → ℕ
number_item place value = unwrap_or (option_and_then as_u64 (option_and_then as_number (at place value))) 0

-- an entry of a schedule
abbrev pub entry_in : Data → Entry
entry_in value = record { task = number_item 0 value; steps = number_item 1 value }

abbrev pub entries_at : (key : List ℕ) → Data → List Entry
entries_at key value = map entry_in (items_at key value)

-- a text, in how many schedules it was seen, and the first of them
unfoldable pub sighting_in : Data → Sighting
sighting_in value = (text_at (codes "text") value, (number_at (codes "count") value, entries_at (codes "first") value))

abbrev pub sightings_at : (key : List ℕ) → Data → List Sighting
sightings_at key value = map sighting_in (items_at key value)

-- deadlocks, if they are counted
abbrev pub stuck_of : (count : Option ℕ) → (first : List Entry) → Option Times
stuck_of None first = None
stuck_of (Some count) first = Some (count, first)

unfoldable pub stuck_in : Data → Option Times
stuck_in value = stuck_of (number_if_at (codes "count") value) (entries_at (codes "first") value)

-- a ticket has 32 bits
abbrev pub ticket_of : ℕ → ℕ
ticket_of n = if nat_lt n (2 ^ 32) then n else 0

-- a change of bytes, if both are known
abbrev pub change_in : (old new : Option ℕ) → Option ValueChange
change_in None new = None
change_in (Some old) None = None
change_in (Some old) (Some new) = Some (record { old = old; new = new })

-- a report
abbrev pub report_of : (setter : ℕ) → (finder old new : Option ℕ) → Report
report_of setter None old new = Unknown setter (unwrap_or old 0) (unwrap_or new 0)
report_of setter (Some finder) old new = Two setter finder (change_in old new)

unfoldable pub report_in : Data → Report
report_in value = report_of (ticket_of (number_at (codes "setter") value))
    (option_map ticket_of (number_if_at (codes "finder") value)) (number_if_at (codes "old") value) (number_if_at (codes "new") value)

abbrev pub known_at : (key : List ℕ) → Data → List Report
known_at key value = map report_in (items_at key value)

-- what is found of the schedules of a part
unfoldable pub findings_in : Data → FindingsView
findings_in value = record {
  reports = sightings_at (codes "reports") value;
  known = known_at (codes "known") value;
  stuck = stuck_in (member_at (codes "stuck") value);
  states = sightings_at (codes "states") value;
  searched = number_at (codes "searched") value;
  held = number_at (codes "held") value;
  failed = number_at (codes "failed") value;
}

-- where a variable stands
unfoldable pub place_in : Data → Place
place_in value = record { name = text_at (codes "name") value; addr = number_at (codes "address") value }

abbrev pub places_at : (key : List ℕ) → Data → List Place
places_at key value = map place_in (items_at key value)

-- how many bits a watch word has
abbrev pub layout_of : ℕ → Layout
layout_of bits = if bits == 32 then W32 else W64

-- what a search goes by
unfoldable pub settings_in : Data → PartSettings
settings_in value = record {
  slots = number_at (codes "slots") value;
  skip = number_at (codes "skip") value;
  randomize = flag_at (codes "randomize") value;
  seed = number_at (codes "seed") value;
  value_change_only = flag_at (codes "value_change_only") value;
  plain_writes_atomic = flag_at (codes "plain_writes_atomic") value;
  layout = layout_of (number_at (codes "bits") value);
  turns = number_at (codes "turns") value;
  switches = number_at (codes "switches") value;
  limit = number_at (codes "limit") value;
  seconds = number_if_at (codes "seconds") value;
  traced = flag_at (codes "traced") value;
  unknown_origin = flag_at (codes "unknown_origin") value;
}

-- whether a search was stopped
abbrev pub stopped_of : (seconds : Option ℕ) → (limited : Bool) → Stopped
stopped_of None limited = if limited then AtLimit else No
stopped_of (Some seconds) limited = AfterSeconds seconds

abbrev pub stopped_at : (key : List ℕ) → Data → Stopped
stopped_at key value = stopped_of (number_if_at key value) (flag_at key value)

-- a part
unfoldable pub part_in : Data → PartView
part_in value = record {
  file = text_at (codes "file") value;
  text = text_at (codes "text") value;
  places = places_at (codes "places") value;
  settings = settings_in (member_at (codes "settings") value);
  part = number_at (codes "part") value;
  parts = number_at (codes "parts") value;
  nodes = number_at (codes "nodes") value;
  stopped = stopped_at (codes "stopped") value;
  found = findings_in (member_at (codes "found") value);
  trace = text_if_at (codes "trace") value;
}
