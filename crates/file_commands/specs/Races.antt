-- What `races` and a search of several files do with their files.
use Rattle.std.specs.Prelude.{◌&&◌, ◌||◌, ℕ, Bool}
use Rattle.cli.specs.declared.request.RacesFormat.{RacesFormat}
use Rattle.cli.specs.declared.request.RacesFormat.TheVariants as races_asked
use Rattle.cli.specs.declared.request.RacesRequest.{RacesRequest}
use Rattle.cli.specs.declared.request.SearchFormat.{SearchFormat}
use Rattle.cli.specs.declared.request.SearchFormat.TheVariants as search_asked
use Rattle.cli.specs.declared.request.SearchesRequest.{SearchesRequest}
use Rattle.cli.specs.declared.request.Switches.{Switches}
use Rattle.cli.specs.declared.request.Switches.TheVariants as switches
use Rattle.file_commands.specs.Desks.{DeskState}
use Rattle.file_commands.specs.FileWork as work
use Rattle.file_search.specs.declared.additions.Additions.{Additions}
use Rattle.file_commands.specs.FileWork.{Asked, FilesEnd}
use Rattle.file_search.specs.Work.{is_search_text}
use Rattle.file_search.specs.declared.work.Work.TheVariants as works
use Rattle.file_search.specs.declared.work.RacesWork.{RacesWork}
use Rattle.file_search.specs.declared.work.SearchWork.{SearchWork}
use Rattle.search_formats.specs.declared.wanted.FileWanted.{FileWanted}
use Rattle.race_output.specs.declared.file.Format as races_format
use Rattle.race_output.specs.declared.file.Format.TheVariants as races_formats
use Rattle.search_formats.specs.declared.wanted.Format as search_format
use Rattle.search_formats.specs.declared.wanted.Format.TheVariants as search_formats
use Rattle.search_formats.specs.declared.wanted.Preemptions.{Preemptions}
use Rattle.search_formats.specs.declared.wanted.Preemptions.TheVariants as preemptions

-- how races are written
abbrev pub format_of : RacesFormat → races_format.Format
format_of races_asked.Text = races_formats.Text
format_of races_asked.Json = races_formats.Json

-- how what a search finds is written
abbrev pub search_format_of : SearchFormat → search_format.Format
search_format_of search_asked.Text = search_formats.Text
search_format_of search_asked.Json = search_formats.Json
search_format_of search_asked.Csv = search_formats.Csv
search_format_of search_asked.Herd = search_formats.Herd
search_format_of (search_asked.Part part parts) = search_formats.Part part parts

-- how many preemptions a schedule may have that is searched
abbrev pub preemptions_of : Switches → Preemptions
preemptions_of (switches.AtMost most) = preemptions.AtMost most
preemptions_of switches.All = preemptions.Any

-- how races are looked for, and written
abbrev pub races_work : RacesRequest → RacesWork
races_work request = record { wanted = record { limit = request.limit; seconds = request.seconds }; format = format_of request.format }

-- how files are searched, and in which format what is found is written
abbrev pub search_wanted : SearchesRequest → FileWanted
search_wanted request = record {
  preemptions = preemptions_of request.switches;
  limit = request.limit;
  seconds = request.seconds;
  reduces = request.reduces;
  format = search_format_of request.format;
  unknown_origin = request.options.unknown_origin;
}

-- What is printed beside what was found, where standard output is a terminal or not: in a format for programs nothing.
abbrev pub search_additions : SearchesRequest → (at_terminal : Bool) → Additions
search_additions request at_terminal = record {
  places = is_search_text (search_format_of request.format) && request.options.located;
  deadlocks = is_search_text (search_format_of request.format);
  settings = is_search_text (search_format_of request.format) && (request.settings || at_terminal);
}

abbrev pub search_work : SearchesRequest → (at_terminal : Bool) → SearchWork
search_work request at_terminal = record { wanted = search_wanted request; additions = search_additions request at_terminal }

-- what `races` is asked to do with its files
abbrev pub asked_of_races : RacesRequest → Asked
asked_of_races request = record {
  files = request.files.items;
  options = request.options;
  work = works.Races (races_work request);
  jobs = request.jobs;
}

-- what a search of several files is asked to do with them
abbrev pub asked_of_search : SearchesRequest → (at_terminal : Bool) → Asked
asked_of_search request at_terminal = record {
  files = request.files.items;
  options = request.options;
  work = works.Search (search_work request at_terminal);
  jobs = request.jobs;
}

-- there are several files whose races are looked for
abbrev pub AreSeveral : RacesRequest → Type 0
AreSeveral request = work.AreSeveral (asked_of_races request)

-- how `races` ends
abbrev pub RacesEnds : RacesRequest → (status : ℕ) → DeskState → DeskState → Type 0
RacesEnds request status before after = FilesEnd (asked_of_races request) status before after

-- how a search of several files ends, or one that is written for programs, where standard output is a terminal or not
abbrev pub SearchesEnd : SearchesRequest → (status : ℕ) → DeskState → DeskState → Type 0
SearchesEnd request status before after = (at_terminal : Bool) × FilesEnd (asked_of_search request at_terminal) status before after
