-- What a search writes.
use Rattle.std.specs.Prelude.{◌++◌, ◌-◌, ◌==◌, ◌^◌, [], ℕ, List, Option, None, Some, codes, count_by, if◌then◌else◌, length}
use Rattle.std.specs.Fmt.{decimal}
use Rattle.std.specs.List.{flat_map}
use Rattle.access_types.specs.ReportText.{line}
use Rattle.search_text.specs.declared.stopped.Stopped.{Stopped}
use Rattle.search_text.specs.declared.stopped.Stopped.TheVariants.{AfterSeconds, AtLimit, No}
use Rattle.search_text.specs.SearchFindings.{Searched, fails, is_deadlocked, meets, resting, seen_in, sightings_in, states_of}
use Rattle.search_text.specs.Schedules.{schedule_text}
use Rattle.search_text.specs.Stops.{is_stopped}
use Rattle.search_text.specs.Times.{Sighting, Times}
use Rattle.search_text.specs.declared.found.SearchFindings.{SearchFindings}
use Rattle.prepared_program.specs.declared.step_schedule.schedule.Entry.{Entry}

-- what stands before a number of schedules: one that rests at its last value may stand for more
abbrev pub at_least : ℕ → List ℕ
at_least count = if count == 2 ^ 64 - 1 then codes "at least " else []

-- a number of schedules that rests at 2^64 - 1
unfoldable pub count_text : ℕ → List ℕ
count_text count = at_least count ++ decimal count

-- in how many schedules something was, behind this word
unfoldable pub times_head : List ℕ → ℕ → List ℕ
times_head word times = word ++ codes " in " ++ count_text times ++ codes " schedules, first with --schedule "

-- the same, and the first of them
abbrev pub times_line : List ℕ → Times → List ℕ
times_line word times = times_head word times.0 ++ (schedule_text times.1 ++ codes "\n")

-- the text of a report, and in how many schedules it was seen
abbrev pub sighting_text : Sighting → List ℕ
sighting_text sighting = sighting.0 ++ times_line (codes "seen") sighting.1

-- in how many schedules not all tasks ended, if there are any
abbrev pub stuck_text : Option Times → List ℕ
stuck_text None = []
stuck_text (Some times) = times_line (codes "stuck") times

-- the schedule of the first list in which something was seen
abbrev pub first_line : List Entry → List ℕ
first_line schedule = codes "first with --schedule " ++ (schedule_text schedule ++ codes "\n")

-- the text of a report, and the schedule of the first list in which it was seen
abbrev pub first_text : Sighting → List ℕ
first_text sighting = sighting.0 ++ first_line sighting.1.1

-- the schedule of the first list after which not all tasks have ended, if there is one
abbrev pub deadlock_text : Option Times → List ℕ
deadlock_text None = []
deadlock_text (Some times) = codes "stuck, " ++ first_line times.1

-- each distinct report and in how many lists it was seen, and in how many not all tasks ended
abbrev pub counted_text : (reports : List Sighting) → (stuck : Option Times) → List ℕ
counted_text reports stuck = flat_map sighting_text reports ++ stuck_text stuck

-- each distinct report, and that not all tasks ended, where they did not: the schedule of the first list alone
abbrev pub uncounted_text : (reports : List Sighting) → (stuck : Option Times) → List ℕ
uncounted_text reports stuck = flat_map first_text reports ++ deadlock_text stuck

-- Where a search was stopped no number of schedules is told of a report or of deadlocks.
abbrev pub seen_text : (stopped : Stopped) → (reports : List Sighting) → (stuck : Option Times) → List ℕ
seen_text stopped reports stuck = if is_stopped stopped then uncounted_text reports stuck else counted_text reports stuck

-- how many schedules were searched
unfoldable pub searched_line : (searched switches : ℕ) → List ℕ
searched_line searched switches =
    line (codes "searched " ++ count_text searched ++ codes " schedules with at most " ++ decimal switches ++ codes " switches")

-- the search was stopped after so many nodes
unfoldable pub stopped_line : ℕ → List ℕ
stopped_line nodes = line (codes "stopped after " ++ decimal nodes ++ codes " nodes: others remain")

-- the search was stopped after so many seconds
unfoldable pub out_of_time_line : ℕ → List ℕ
out_of_time_line seconds = line (codes "stopped after " ++ decimal seconds ++ codes " seconds: others remain")

abbrev pub stopped_text : Stopped → (nodes : ℕ) → List ℕ
stopped_text No nodes = []
stopped_text AtLimit nodes = stopped_line nodes
stopped_text (AfterSeconds seconds) nodes = out_of_time_line seconds

-- how many final states there are
unfoldable pub states_line : ℕ → List ℕ
states_line states = line (codes "States " ++ decimal states)

-- a final state, and how many schedules end so
abbrev pub state_line : Sighting → List ℕ
state_line sighting = (count_text sighting.1.0 ++ codes ">") ++ (sighting.0 ++ codes "\n")

-- in which of so many and so many whole lists the proposition holds, and doesn't
abbrev pub word_of : (held failed : ℕ) → List ℕ
word_of held failed = if held == 0 then codes "Never" else if failed == 0 then codes "Always" else codes "Sometimes"

unfoldable pub observed : (held failed : ℕ) → List ℕ
observed held failed = line (codes " " ++ word_of held failed ++ codes " " ++ count_text held ++ codes " " ++ count_text failed)

-- the same, of the test of this name
abbrev pub observation_line : List ℕ → (held failed : ℕ) → List ℕ
observation_line name held failed = codes "Observation " ++ (name ++ observed held failed)

-- how many schedules were searched, of those with at most so many preemptions, and that others remain, if they do
abbrev pub bounds_text : (searched switches nodes : ℕ) → (stopped : Stopped) → List ℕ
bounds_text searched switches nodes stopped = searched_line searched switches ++ stopped_text stopped nodes

-- how whole lists end: how many final states there are, each of them, and in how many the proposition of the condition
-- holds, and doesn't
abbrev pub endings_text : (name : List ℕ) → (states : List Sighting) → (held failed : ℕ) → List ℕ
endings_text name states held failed =
    states_line (length states) ++ (flat_map state_line states ++ observation_line name held failed)

-- What a search over the schedules of the test of this name writes, with at most so many preemptions, stopped after so
-- many nodes or for its time, or not: each distinct report and in how many lists it was seen; in how many not all tasks
-- ended; how many lists were searched; and how the others end. Where it was stopped there is no number of a report's
-- lists, nor of those in which not all tasks ended.
abbrev pub found_text : (name : List ℕ) → (switches nodes : ℕ) → (stopped : Stopped) → (reports : List Sighting) → (stuck : Option Times)
    → (states : List Sighting) → (searched held failed : ℕ) → List ℕ
found_text name switches nodes stopped reports stuck states searched held failed =
    seen_text stopped reports stuck ++ (bounds_text searched switches nodes stopped ++ endings_text name states held failed)

abbrev pub text_found : (name : List ℕ) → (switches nodes : ℕ) → (stopped : Stopped) → SearchFindings → List ℕ
text_found name switches nodes stopped found =
    found_text name switches nodes stopped found.reports found.stuck found.states found.searched found.held found.failed

-- so it is of these lists
abbrev pub search_text : (name : List ℕ) → (switches nodes : ℕ) → (stopped : Stopped) → List Searched → List ℕ
search_text name switches nodes stopped lists =
    found_text name switches nodes stopped (sightings_in (λ one. one.texts) lists) (seen_in is_deadlocked lists)
    (sightings_in states_of lists) (resting (length lists)) (resting (count_by meets lists)) (resting (count_by fails lists))

-- how many states were searched
unfoldable pub visited_line : ℕ → List ℕ
visited_line visited = line (codes "searched " ++ decimal visited ++ codes " states of all schedules")

-- the search was stopped after so many states
unfoldable pub stopped_at_line : ℕ → List ℕ
stopped_at_line visited = line (codes "stopped after " ++ decimal visited ++ codes " states: others remain")

abbrev pub stopped_at_text : Stopped → (visited : ℕ) → List ℕ
stopped_at_text No visited = []
stopped_at_text AtLimit visited = stopped_at_line visited
stopped_at_text (AfterSeconds seconds) visited = out_of_time_line seconds

-- how many states were searched, and that others remain, if they do
abbrev pub visited_text : (visited : ℕ) → (stopped : Stopped) → List ℕ
visited_text visited stopped = visited_line visited ++ stopped_at_text stopped visited

-- What a search over the states of the test of this name writes, stopped at its limit or not: each distinct report and
-- the schedule of the first list in which it was seen; that of the first after which not all tasks have ended; how many
-- states were searched; and how the others end. No lists are counted: which of the lists that lead to a state is
-- visited says nothing.
abbrev pub states_text : (name : List ℕ) → (stopped : Stopped) → (visited : ℕ) → (reports : List Sighting) → (stuck : Option Times)
    → (states : List Sighting) → (held failed : ℕ) → List ℕ
states_text name stopped visited reports stuck states held failed =
    flat_map first_text reports ++ (deadlock_text stuck ++ (visited_text visited stopped ++ endings_text name states held failed))

abbrev pub text_of_both : (name : List ℕ) → (stopped : Stopped) → (visited : ℕ) → (reported ended : SearchFindings) → List ℕ
text_of_both name stopped visited reported ended =
    states_text name stopped visited reported.reports ended.stuck ended.states ended.held ended.failed

-- so it is where at the last step of some of these lists reports fall, and others end
abbrev pub states_search_text : (name : List ℕ) → (stopped : Stopped) → (visited : ℕ) → (reported ended : List Searched) → List ℕ
states_search_text name stopped visited reported ended =
    states_text name stopped visited (sightings_in (λ one. one.texts) reported) (seen_in is_deadlocked ended)
    (sightings_in states_of ended) (resting (count_by meets ended)) (resting (count_by fails ended))
