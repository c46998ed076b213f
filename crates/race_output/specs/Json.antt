-- What is written of the races of a text as JSON. The members of an object are in the order of their keys.
use Rattle.std.specs.Prelude.{◌||◌, ◌++◌, ℕ, Bool, List, None, Option, Some, codes, false, map, option_map, true}
use Rattle.access_types.specs.Kind.{access_words}
use Rattle.executions.specs.execution.Run.{Run}
use Rattle.litmus_syntax.specs.declared.program.Variable.{Variable}
use Rattle.prepared_program.specs.declared.program_sites.settings.Settings.{Settings}
use Rattle.prepared_program.specs.declared.step_schedule.schedule.Entry.{Entry}
use Rattle.race_output.specs.Reasons.{reasons_of}
use Rattle.race_output.specs.Sites.{told_of}
use Rattle.output_pieces.specs.Values.{column_data, line_data, schedule_data, settings_data, statement_data, text_data}
use Rattle.output_pieces.specs.Variables.{names_of}
use Rattle.race_output.specs.Words.{file_word, verdict_of, verdict_words}
use Rattle.race_output.specs.declared.sites.SiteTold.{SiteTold}
use Rattle.race_verdicts.specs.declared.find.RacesFound.{RacesFound}
use Rattle.races.specs.declared.verdict.PairFound.{PairFound}
use Rattle.races.specs.declared.verdict.Verdict.{Verdict}
use Rattle.races.specs.declared.verdict.Verdict.TheVariants as verdicts
use Rattle.search_text.specs.Stops as stops
use Rattle.serde_json.specs.Data.{Data, array, boolean, item, member, no_items, no_members, null, number, object, string, unsigned}
use Rattle.serde_json.specs.View.{items_of}
use Rattle.serde_json.specs.Written.{compact_text}

-- a site
unfoldable pub site_data : (text : List ℕ) → SiteTold → Data
site_data text site = object
    (member (codes "access") (string (access_words site.kind)) (member (codes "column") (column_data text site.at)
    (member (codes "line") (line_data text site.at) (member (codes "site") (number (unsigned site.site))
    (member (codes "task") (number (unsigned site.task)) (member (codes "text") (statement_data text site.at) no_members))))))

-- the two sites of a pair
unfoldable pub sites_data : (text : List ℕ) → (first second : SiteTold) → Data
sites_data text first second = array (item (site_data text first) (item (site_data text second) no_items))

-- a schedule, if there is one
abbrev pub schedule_if_data : Option (List Entry) → Data
schedule_if_data None = null
schedule_if_data (Some entries) = schedule_data entries

-- the reasons for a verdict
unfoldable pub why_data : (first second : SiteTold) → Verdict → Data
why_data first second verdict = array (items_of (map text_data (reasons_of first second verdict)))

-- whether the verdict is that a pair is reported
abbrev pub is_reported : Verdict → Bool
is_reported verdicts.Reported = true
is_reported verdict = false

-- a pair with these sites
unfoldable pub told_data : List Variable → (text : List ℕ) → (first second : SiteTold) → Verdict → Option (List Entry) → Data
told_data variables text first second verdict schedule = object
    (member (codes "reported") (boolean (is_reported verdict)) (member (codes "schedule") (schedule_if_data schedule)
    (member (codes "sites") (sites_data text first second)
    (member (codes "variable") (text_data (names_of variables first.variable second.variable))
    (member (codes "verdict") (string (verdict_words verdict))
    (member (codes "why") (why_data first second verdict) no_members))))))

-- a pair
unfoldable pub pair_data : Run → (text : List ℕ) → (places : List (List ℕ)) → PairFound → Data
pair_data run text places one =
    told_data run.program.variables text (told_of run text places one.pair.first) (told_of run text places one.pair.second)
    one.verdict (option_map (λ entries. entries.items) one.schedule)

-- how many states were visited
unfoldable pub states_data : RacesFound → Data
states_data found = object
    (member (codes "with_watchpoints") (number (unsigned found.states))
    (member (codes "without_watchpoints") (number (unsigned found.unwatched_states)) no_members))

-- whether a walk was stopped
abbrev pub is_stopped : RacesFound → Bool
is_stopped found = stops.is_stopped found.unwatched_stopped || stops.is_stopped found.stopped

-- what was found under these settings in a file of this name, whose pairs are these
unfoldable pub whole_data : (name : List ℕ) → (pairs : Data) → Settings → RacesFound → Data
whole_data name pairs settings found = object
    (member (codes "file") (string name) (member (codes "pairs") pairs
    (member (codes "schedules") (number (unsigned found.schedules)) (member (codes "settings") (settings_data settings)
    (member (codes "states") (states_data found) (member (codes "stopped") (boolean (is_stopped found))
    (member (codes "verdict") (string (file_word (verdict_of found.pairs.items))) no_members)))))))

-- what was found of a run under these settings, in a file of this name
unfoldable pub file_data : (name : List ℕ) → Run → (text : List ℕ) → (places : List (List ℕ)) → Settings → RacesFound → Data
file_data name run text places settings found =
    whole_data name (array (items_of (map (pair_data run text places) found.pairs.items))) settings found

-- the same as it is written: one object, in one line
unfoldable pub races_json : (name : List ℕ) → Run → (text : List ℕ) → (places : List (List ℕ)) → Settings → RacesFound → List ℕ
races_json name run text places settings found = compact_text (file_data name run text places settings found) ++ codes "\n"
