-- What is found of a file, as JSON. The members of an object are in the order of their keys.
use Rattle.std.specs.Prelude.{◌≡◌, ◌++◌, ◌==◌, ℕ, Bool, List, None, Option, Some, codes, false, if◌then◌else◌, length, map, not}
use Rattle.access_types.specs.Sites.{AccessMap}
use Rattle.litmus_semantics.specs.Layout.{VariablePlace}
use Rattle.litmus_syntax.specs.declared.program.Variable.{Variable}
use Rattle.prepared_program.specs.declared.program_sites.settings.Settings.{Settings}
use Rattle.output_pieces.specs.Values.{schedule_data, text_data}
use Rattle.output_pieces.specs.Values.{settings_data}
use Rattle.search_json.specs.Extents.{is_counted}
use Rattle.search_json.specs.Extents.{status_of}
use Rattle.search_json.specs.Reports.{count_data, number_data, sighting_data}
use Rattle.search_json.specs.declared.extent.Extent.{Extent}
use Rattle.search_text.specs.Times.{Sighting, Times}
use Rattle.search_text.specs.Write.{word_of}
use Rattle.search_text.specs.declared.found.SearchFindings.{SearchFindings}
use Rattle.serde_json.specs.Data.{Data, array, boolean, member, no_items, no_members, null, number, object, string, unsigned}
use Rattle.serde_json.specs.View.{items_of}
use Rattle.serde_json.specs.Written.{compact_text, has_float}

-- in which of so many and so many a proposition holds
abbrev pub word : (held failed : ℕ) → List ℕ
word held failed = word_of held failed

-- how often the proposition of the test of this name holds, and doesn't
unfoldable pub observation_data : (name : List ℕ) → (held failed : ℕ) → Data
observation_data name held failed = object
    (member (codes "name") (string name) (member (codes "negative") (number (unsigned failed))
    (member (codes "positive") (number (unsigned held)) (member (codes "word") (string (word held failed)) no_members))))

-- the nodes that were visited, and the states, as a search visits the ones or the others
abbrev pub nodes_of : Extent → Option ℕ
nodes_of extent = if extent.bounded then Some extent.visited else None

abbrev pub states_of : Extent → Option ℕ
states_of extent = if extent.bounded then None else Some extent.visited

-- how much was searched: nodes and schedules, or states
unfoldable pub searched_data : Extent → (searched : ℕ) → Data
searched_data extent searched = object
    (member (codes "nodes") (number_data (nodes_of extent)) (member (codes "schedules") (count_data extent.bounded searched)
    (member (codes "states") (number_data (states_of extent)) no_members)))

-- a final state, and how many schedules end in it; where states are searched, each is counted once
unfoldable pub state_data : (state : List ℕ) → (times : ℕ) → Data
state_data state times = object
    (member (codes "count") (number (unsigned times)) (member (codes "state") (text_data state) no_members))

-- the final states
abbrev pub states_data : List Sighting → Data
states_data states = array (items_of (map (λ sighting. state_data sighting.0 sighting.1.0) states))

-- after how many schedules not all tasks have ended, and the first of them
unfoldable pub deadlock_data : (counted : Bool) → Times → Data
deadlock_data counted seen = object
    (member (codes "count") (count_data counted seen.0) (member (codes "schedule") (schedule_data seen.1) no_members))

-- the same, if there are some
abbrev pub stuck_data : (counted : Bool) → Option Times → Data
stuck_data counted None = null
stuck_data counted (Some seen) = deadlock_data counted seen

-- the object of a file of this name
unfoldable pub whole_data : (name : List ℕ) → (status : ℕ) → (stopped : Bool)
    → (observation reports searched settings states stuck : Data) → Data
whole_data name status stopped observation reports searched settings states stuck = object
    (member (codes "error") null (member (codes "file") (string name) (member (codes "observation") observation
    (member (codes "reports") reports (member (codes "searched") searched (member (codes "settings") settings
    (member (codes "states") states (member (codes "status") (number (unsigned status))
    (member (codes "stopped") (boolean stopped) (member (codes "stuck") stuck no_members))))))))))

-- What is found of a file of this name, whose test has that one: its reports, each with its accesses, how many
-- schedules have it, where that is known, and the first of them; how schedules end; and how much was searched under
-- which settings.
unfoldable pub file_data : (name test : List ℕ) → List VariablePlace → List Variable → (text : List ℕ) → (spots : List (List ℕ))
    → AccessMap → Settings → (reported ended : SearchFindings) → Extent → Data
file_data name test places variables text spots sites settings reported ended extent =
    whole_data name (status_of (not (length reported.reports == 0)) extent.stopped) extent.stopped
    (observation_data test ended.held ended.failed)
    (array (items_of (map (sighting_data places variables text spots sites reported.known.items (is_counted extent)) reported.reports)))
    (searched_data extent reported.searched) (settings_data settings) (states_data ended.states)
    (stuck_data (is_counted extent) ended.stuck)

-- no number of the value is a float
abbrev pub HasNoFloat : Data → Type 0
HasNoFloat value = has_float value ≡ false

-- the value, in one line
abbrev pub line : Data → List ℕ
line value = compact_text value ++ codes "\n"

-- what is found of a file, as it is written
unfoldable pub json_text : (name test : List ℕ) → List VariablePlace → List Variable → (text : List ℕ) → (spots : List (List ℕ))
    → AccessMap → Settings → (reported ended : SearchFindings) → Extent → List ℕ
json_text name test places variables text spots sites settings reported ended extent =
    line (file_data name test places variables text spots sites settings reported ended extent)

-- the object of a file that isn't searched
unfoldable pub refused_data : (name : List ℕ) → (status : ℕ) → (why : List ℕ) → Data
refused_data name status why = object
    (member (codes "error") (text_data why) (member (codes "file") (string name) (member (codes "observation") null
    (member (codes "reports") (array no_items) (member (codes "searched") null (member (codes "settings") null
    (member (codes "states") (array no_items) (member (codes "status") (number (unsigned status))
    (member (codes "stopped") null (member (codes "stuck") null no_members))))))))))

-- the same, as it is written
unfoldable pub refused_json : (name : List ℕ) → (status : ℕ) → (why : List ℕ) → List ℕ
refused_json name status why = line (refused_data name status why)
