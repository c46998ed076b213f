-- Values of JSON: texts, places in a text, schedules and settings. The members of an object are in the order of their
-- keys.
use Rattle.std.specs.Prelude.{ℕ, List, None, Option, Some, codes}
use Rattle.std.specs.Str.Lossy.{utf8_lossy}
use Rattle.litmus_lex.specs.Lines.{column_at, line_at}
use Rattle.output_pieces.specs.Spots.{statement_at}
use Rattle.prepared_program.specs.declared.program_sites.settings.Settings.{Settings}
use Rattle.prepared_program.specs.declared.step_schedule.schedule.Entry.{Entry}
use Rattle.search_text.specs.Schedules.{schedule_text}
use Rattle.serde_json.specs.Data.{Data, boolean, member, no_members, null, number, object, string, unsigned}

-- a text; all that are written are ASCII
abbrev pub text_data : List ℕ → Data
text_data text = string (utf8_lossy text)

-- the line and the column of a place, and what is written there, if the place is known
abbrev pub line_data : (text : List ℕ) → Option ℕ → Data
line_data text None = null
line_data text (Some at) = number (unsigned (line_at text at))

abbrev pub column_data : (text : List ℕ) → Option ℕ → Data
column_data text None = null
column_data text (Some at) = number (unsigned (column_at text at))

abbrev pub statement_data : (text : List ℕ) → Option ℕ → Data
statement_data text None = null
statement_data text (Some at) = text_data (statement_at text at)

-- a schedule
abbrev pub schedule_data : List Entry → Data
schedule_data entries = text_data (schedule_text entries)

-- the settings
unfoldable pub settings_data : Settings → Data
settings_data settings = object
    (member (codes "plain_writes_atomic") (boolean settings.plain_writes_atomic)
    (member (codes "randomize") (boolean settings.randomize) (member (codes "seed") (number (unsigned settings.seed))
    (member (codes "skip") (number (unsigned settings.skip)) (member (codes "slots") (number (unsigned settings.slots))
    (member (codes "turns") (number (unsigned settings.turns))
    (member (codes "value_change_only") (boolean settings.value_change_only) no_members)))))))
