-- A part of a search as a value of JSON. The members of an object are in the order of their keys.
use Rattle.std.specs.Prelude.{ℕ, List, None, Option, Some, codes, false, map, option_map, true}
use Rattle.access_types.specs.declared.report.Report.{Report}
use Rattle.access_types.specs.declared.report.Report.TheVariants.{Two, Unknown}
use Rattle.access_types.specs.declared.report.ValueChange.{ValueChange}
use Rattle.part_search.specs.part_file.Views.{FindingsView, PartView}
use Rattle.part_search.specs.declared.part_file.part.PartSettings.{PartSettings}
use Rattle.prepared_program.specs.declared.program_layout.place.Place.{Place}
use Rattle.prepared_program.specs.declared.step_schedule.schedule.Entry.{Entry}
use Rattle.search_text.specs.Times.{Sighting, Times}
use Rattle.search_text.specs.declared.stopped.Stopped.{Stopped}
use Rattle.search_text.specs.declared.stopped.Stopped.TheVariants.{AfterSeconds, AtLimit, No}
use Rattle.serde_json.specs.Data.{Data, array, boolean, item, member, no_items, no_members, null, number, object, string, unsigned}
use Rattle.serde_json.specs.View.{items_of}
use Rattle.watch_word.specs.declared.layout.Layout.{Layout}
use Rattle.watch_word.specs.declared.layout.Layout.TheVariants.{W32, W64}

-- a number and a text, if they are known
abbrev pub number_data : Option ℕ → Data
number_data None = null
number_data (Some n) = number (unsigned n)

abbrev pub text_data : Option (List ℕ) → Data
text_data None = null
text_data (Some text) = string text

-- an entry of a schedule: the task and how many steps it makes
abbrev pub entry_data : Entry → Data
entry_data entry = array (item (number (unsigned entry.task)) (item (number (unsigned entry.steps)) no_items))

-- a schedule
abbrev pub entries_data : List Entry → Data
entries_data entries = array (items_of (map entry_data entries))

-- in how many schedules something was seen, and the first of them
unfoldable pub times_data : Times → Data
times_data seen = object (member (codes "count") (number (unsigned seen.0)) (member (codes "first") (entries_data seen.1) no_members))

-- a text, in how many schedules it was seen, and the first of them
unfoldable pub sighting_data : Sighting → Data
sighting_data one = object
    (member (codes "count") (number (unsigned one.1.0)) (member (codes "first") (entries_data one.1.1)
    (member (codes "text") (string one.0) no_members)))

abbrev pub sightings_data : List Sighting → Data
sightings_data all = array (items_of (map sighting_data all))

-- the same of deadlocks, if there are some
abbrev pub stuck_data : Option Times → Data
stuck_data None = null
stuck_data (Some seen) = times_data seen

-- of a report: the tickets of the access that armed and of the one that took, if there is one, and the bytes before and
-- behind, where a change was seen
abbrev pub setter_of : Report → ℕ
setter_of (Two setter finder seen) = setter
setter_of (Unknown setter old new) = setter

abbrev pub finder_of : Report → Option ℕ
finder_of (Two setter finder seen) = Some finder
finder_of (Unknown setter old new) = None

abbrev pub change_of : Report → Option ValueChange
change_of (Two setter finder seen) = seen
change_of (Unknown setter old new) = Some (record { old = old; new = new })

abbrev pub old_data : Option ValueChange → Data
old_data change = number_data (option_map (λ (change : ValueChange). change.old) change)

abbrev pub new_data : Option ValueChange → Data
new_data change = number_data (option_map (λ (change : ValueChange). change.new) change)

-- a report
unfoldable pub report_data : Report → Data
report_data report = object
    (member (codes "finder") (number_data (finder_of report)) (member (codes "new") (new_data (change_of report))
    (member (codes "old") (old_data (change_of report)) (member (codes "setter") (number (unsigned (setter_of report))) no_members))))

abbrev pub known_data : List Report → Data
known_data reports = array (items_of (map report_data reports))

-- what is found of the schedules of a part
unfoldable pub findings_data : FindingsView → Data
findings_data found = object
    (member (codes "failed") (number (unsigned found.failed)) (member (codes "held") (number (unsigned found.held))
    (member (codes "known") (known_data found.known) (member (codes "reports") (sightings_data found.reports)
    (member (codes "searched") (number (unsigned found.searched)) (member (codes "states") (sightings_data found.states)
    (member (codes "stuck") (stuck_data found.stuck) no_members)))))))

-- how many bits a watch word has
abbrev pub bits_of : Layout → ℕ
bits_of W64 = 64
bits_of W32 = 32

-- what a search goes by
unfoldable pub settings_data : PartSettings → Data
settings_data settings = object
    (member (codes "bits") (number (unsigned (bits_of settings.layout))) (member (codes "limit") (number (unsigned settings.limit))
    (member (codes "plain_writes_atomic") (boolean settings.plain_writes_atomic) (member (codes "randomize") (boolean settings.randomize)
    (member (codes "seconds") (number_data settings.seconds) (member (codes "seed") (number (unsigned settings.seed))
    (member (codes "skip") (number (unsigned settings.skip)) (member (codes "slots") (number (unsigned settings.slots))
    (member (codes "switches") (number (unsigned settings.switches)) (member (codes "traced") (boolean settings.traced)
    (member (codes "turns") (number (unsigned settings.turns)) (member (codes "unknown_origin") (boolean settings.unknown_origin)
    (member (codes "value_change_only") (boolean settings.value_change_only) no_members)))))))))))))

-- where a variable stands
unfoldable pub place_data : Place → Data
place_data place = object
    (member (codes "address") (number (unsigned place.addr)) (member (codes "name") (string place.name) no_members))

abbrev pub places_data : List Place → Data
places_data places = array (items_of (map place_data places))

-- whether a search was stopped: at its limit, or after so many seconds
abbrev pub stopped_data : Stopped → Data
stopped_data No = boolean false
stopped_data AtLimit = boolean true
stopped_data (AfterSeconds seconds) = number (unsigned seconds)

-- by this text a part is known, and how it is written
abbrev pub format : List ℕ
format = codes "kcsan_litmus part 1"

-- a part
unfoldable pub part_data : PartView → Data
part_data part = object
    (member (codes "file") (string part.file) (member (codes "format") (string format)
    (member (codes "found") (findings_data part.found) (member (codes "nodes") (number (unsigned part.nodes))
    (member (codes "part") (number (unsigned part.part)) (member (codes "parts") (number (unsigned part.parts))
    (member (codes "places") (places_data part.places) (member (codes "settings") (settings_data part.settings)
    (member (codes "stopped") (stopped_data part.stopped) (member (codes "text") (string part.text)
    (member (codes "trace") (text_data part.trace) no_members)))))))))))
