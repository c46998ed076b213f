-- What the program does for what it is asked, and what each status says.
use Rattle.std.specs.Prelude.{◌≡◌, ◌≢◌, ◌<◌, ◌≤◌, ◌⊎◌, ◌||◌, ℕ, List, Option, Some, None, Bool, true, false, is_some}
use Rattle.std.specs.Option.{option_map}
use Rattle.cli.specs.Bounds.{MayBeAsked}
use Rattle.clap.specs.Words.{kind_of}
use Rattle.clap.specs.declared.error.Error.{Error}
use Rattle.clap.specs.declared.error.kind.ErrorKind.{ErrorKind}
use Rattle.clap.specs.declared.error.kind.ErrorKind.TheVariants as kinds
use Rattle.cli.specs.Version.{version_line}
use Rattle.cli.specs.Words.{Ask, AskForHelp, AskForVersion, MayFail}
use Rattle.cli.specs.declared.request.CheckRequest.{CheckRequest}
use Rattle.cli.specs.declared.request.JoinRequest.{JoinRequest}
use Rattle.cli.specs.declared.request.RacesRequest.{RacesRequest}
use Rattle.cli.specs.declared.request.ReplayRequest.{ReplayRequest}
use Rattle.cli.specs.declared.request.Request.{Request}
use Rattle.cli.specs.declared.request.Request.TheVariants as requests
use Rattle.cli.specs.declared.request.RunOptions.{RunOptions}
use Rattle.cli.specs.declared.request.RunRequest.{RunRequest}
use Rattle.cli.specs.declared.request.SearchRequest.{SearchRequest}
use Rattle.cli.specs.declared.request.SearchesRequest.{SearchesRequest}
use Rattle.cli.specs.declared.request.ShowRequest.{ShowRequest}
use Rattle.cli.specs.declared.request.StepRequest.{StepRequest}
use Rattle.cli.specs.declared.request.Switches.{Switches}
use Rattle.cli.specs.declared.request.Switches.TheVariants as switches
use Rattle.litmus_parse.specs.Grammar.{SpellsProgram}
use Rattle.litmus_parse.specs.Text.{file_bytes}
use Rattle.litmus_syntax.specs.Tree as tree
use Rattle.report_text.specs.Faults.{size_limit}
use Rattle.report_text.specs.Sink.{CountsFailure, HoldsBeginning, appended}
use Rattle.run_stats.specs.Errors as tally
use Rattle.run_stats.specs.Output as tally_output
use Rattle.run_stats.specs.declared.times.Times.{Times}
use Rattle.prepared_program.specs.step_schedule.Spelling as schedules
use Rattle.prepared_program.specs.declared.step_schedule.schedule.Entry.{Entry}
use Rattle.prepared_program.specs.declared.program_sites.settings.Settings.{Settings}
use Rattle.search_all.specs.Texts.{AllIsSearched}
use Rattle.search_all.specs.declared.wanted.AllWanted.{AllWanted}
use Rattle.search_output.specs.Texts as searched
use Rattle.search_run.specs.Texts as search
use Rattle.search_run.specs.declared.wanted.Wanted.{Wanted}
use Rattle.trace_replay.specs.Answer as answers
use Rattle.trace_replay.specs.declared.accepted.TraceError.{TraceError}
use Rattle.diagnostics.specs.text_check.Calls.{calls_text}
use Rattle.file_search.specs.Additions.{HasAdditions}
use Rattle.file_commands.specs.Check.{CheckAsksFor, CheckEnds, IsOutOfMemory, IsSeveral, IsWarned}
use Rattle.file_commands.specs.Desks.{DeskState}
use Rattle.file_search.specs.declared.additions.Additions.{Additions}
use Rattle.litmus_command.specs.Engine.{IsRefused, TextLeaves}
use Rattle.file_commands.specs.Files.{FileEvent, Gave, Has, OnlyRead, noted}
use Rattle.litmus_command.specs.Replay.{IsLineOf}
use Rattle.file_commands.specs.Lists.{SpellsNoPlaces, SpellsNoSchedule}
use Rattle.litmus_command.specs.Overwrite.{IsKept, Overwrites}
use Rattle.file_commands.specs.Settings.{AskSettings}
use Rattle.file_commands.specs.Races.{AreSeveral, SearchesEnd}
use Rattle.litmus_command.specs.Show.{IsDrawn, IsNotDrawn}
use Rattle.litmus_command.specs.declared.show.Wanted as drawing
use Rattle.file_commands.specs.Statuses.{complaint_status_of, engine_status_of, status_of}
use Rattle.file_commands.specs.Statuses.{trace_status_of}
use Rattle.file_commands.specs.declared.failure.Failure.{Failure}
use Rattle.join_command.specs.Ends.{JoinEnds}
use Rattle.page_command.specs.Ends.{AllRacesEnd}
use Rattle.picture_text.specs.declared.cells.Style.TheVariants.{Ascii}
use Rattle.file_commands.specs.StandardError.{heard}
use Rattle.file_commands.specs.declared.complaint.Complaint.{Complaint}
use Rattle.file_commands.specs.declared.complaint.Complaint.TheVariants as complaint
use Rattle.run_output.specs.declared.error.EngineError.{EngineError}

-- what standard output has taken, how often the desk has failed, and what was done with files
pub record OutputState : Type 0 where
  pub written : Option (List ℕ)
  pub failures : ℕ
  pub files : Option (List FileEvent)

-- that of a desk
abbrev pub state_in : DeskState → OutputState
state_in at = record { written = at.written; failures = at.failures; files = at.files }

-- and this is the schedule, as the request's text spells it
pub record AsksFor (request : StepRequest) (settings : Settings) (entries : List Entry) : Type 0 where
  pub settings_are : AskSettings request.options settings
  pub schedule : schedules.Spells request.schedule.now entries

-- what was done with files, where then a trace was written, if it is asked for and there is one
abbrev pub with_trace : Option (List FileEvent) → (path trace : Option (List ℕ)) → Option (List FileEvent)
with_trace before (Some path) (Some trace) = noted before (Has path trace)
with_trace before (Some path) None = before
with_trace before None trace = before

-- what is printed beside what was found in runs, as it is asked for
abbrev pub run_additions_of : RunOptions → Additions
run_additions_of options = record { places = options.located; deadlocks = false; settings = false }

-- and in a search, where standard output is a terminal or not
abbrev pub search_additions_of : SearchRequest → (at_terminal : Bool) → Additions
search_additions_of request at_terminal = record {
  places = request.options.located;
  deadlocks = true;
  settings = request.settings || at_terminal;
}

-- This is left of one run of the program that a text spells, under the settings and the schedule that are asked for:
-- whether there was a report that is printed, the output, with what is wanted beside it, and the trace, if it is asked for.
pub record IsLeft (request : StepRequest) (text : List ℕ) (raced : Bool) (output : List ℕ) (trace : Option (List ℕ)) :
    Type 0 where
  pub settings : Settings
  pub entries : List Entry
  pub asks : AsksFor request settings entries
  pub plain : List ℕ
  pub leaves : TextLeaves request.options.unknown_origin text settings entries raced plain trace
  pub added : HasAdditions (run_additions_of request.options) request.file.now text settings plain output
  pub traced : is_some trace ≡ is_some request.options.trace

-- how often a program is run, and how, as it is asked for
abbrev pub times_of : RunRequest → Times
times_of request = record {
  runs = request.runs;
  delay = request.delay;
  jobs = request.jobs;
  stop_at_first = request.stop_at_first;
  keep_going = request.keep_going;
  unknown_origin = request.options.unknown_origin;
}

-- This is left of runs on threads of the program that a text spells, as often and under the settings as it is asked
-- for: whether there was a report, the output, with what is wanted beside it, and the trace of the last run that ended,
-- if it is asked for and there is one.
pub record AreLeft (request : RunRequest) (text : List ℕ) (raced : Bool) (output : List ℕ) (trace : Option (List ℕ)) : Type 0 where
  pub settings : Settings
  pub asks : AskSettings request.options settings
  pub plain : List ℕ
  pub leaves : tally_output.TextLeaves text settings (times_of request) (is_some request.options.trace) raced plain trace
  pub added : HasAdditions (run_additions_of request.options) request.file.now text settings plain output

-- what is wanted of a search of schedules with at most so many preemptions, as it is asked for
abbrev pub wanted_of : SearchRequest → (most : ℕ) → Wanted
wanted_of request most = record {
  switches = most;
  limit = request.limit;
  seconds = request.seconds;
  traced = is_some request.options.trace;
  unknown_origin = request.options.unknown_origin;
}

-- and of one of all schedules
abbrev pub all_wanted_of : SearchRequest → AllWanted
all_wanted_of request = record {
  limit = request.limit;
  seconds = request.seconds;
  traced = is_some request.options.trace;
  reduces = request.reduces;
  unknown_origin = request.options.unknown_origin;
}

-- a search of a text, over schedules with at most so many preemptions or over all, leaves this of what is asked for
abbrev pub IsSearchedFor : SearchRequest → Switches → (text : List ℕ) → Settings → (raced stopped : Bool) → (output : List ℕ) →
    (trace : Option (List ℕ)) → Type 0
IsSearchedFor request (switches.AtMost most) text settings raced stopped output trace =
    search.TextIsSearched text settings (wanted_of request most) raced stopped output trace
IsSearchedFor request switches.All text settings raced stopped output trace =
    AllIsSearched text settings (all_wanted_of request) raced stopped output trace

-- This is left of a search over the program that a text spells, within the bounds and under the settings that are asked
-- for: whether there was a report, whether others remain, the output, with what is wanted beside it, and the trace of
-- the first list with a report, if it is asked for and there is one.
pub record IsFound (request : SearchRequest) (stopped : Bool) (text : List ℕ) (raced : Bool) (output : List ℕ) (trace : Option (List ℕ)) :
    Type 0 where
  pub settings : Settings
  pub asks : AskSettings request.options settings
  pub plain : List ℕ
  pub found : IsSearchedFor request request.switches text settings raced stopped plain trace
  pub at_terminal : Bool
  pub added : HasAdditions (search_additions_of request at_terminal) request.file.now text settings plain output

-- What is left of runs was given: standard output took the output, and the trace was written, if it is asked for and
-- there is one.
pub record IsGiven (path : Option (List ℕ)) (output : List ℕ) (trace : Option (List ℕ)) (before after : OutputState) : Type 0 where
  pub written : after.written ≡ appended before.written output
  pub files : after.files ≡ with_trace before.files path trace

-- Not all of it could be given. There is a trace, and its file could not be written: standard output and all files have
-- what they had. Or that was done, and standard output took but a beginning of the output.
abbrev pub IsGivenInPart : (path : Option (List ℕ)) (output : List ℕ) (trace : Option (List ℕ)) (before after : OutputState) → Type 0
IsGivenInPart path output trace before after =
    ((is_some trace ≡ true) × (after.written ≡ before.written) × (after.files ≡ before.files))
    ⊎ (HoldsBeginning output before.written after.written × (after.files ≡ with_trace before.files path trace))

-- once the file of a name gave this text, of which at most so many bytes and one were asked for
abbrev pub once_read : (file : List ℕ) (limit : ℕ) (text : List ℕ) → OutputState → OutputState
once_read file limit text before = record before { files = noted before.files (Gave file limit text) }

abbrev pub trace_path : RunOptions → Option (List ℕ)
trace_path options = option_map (λ path. path.now) options.trace

abbrev pub svg_path : ShowRequest → Option (List ℕ)
svg_path request = option_map (λ path. path.now) request.svg

-- The file that is asked for was read, and was run, or drawn, as it is asked. What is left of that was given, which has
-- a report or none: an output, and what goes to the file of this path, if there is one.
pub record FileIsRun (file : List ℕ) (limit : ℕ) (path : Option (List ℕ)) (Left : List ℕ → Bool → List ℕ → Option (List ℕ) → Type 0)
    (raced : Bool) (before after : OutputState) : Type 0 where
  pub text : List ℕ
  pub output : List ℕ
  pub trace : Option (List ℕ)
  pub left : Left text raced output trace
  pub given : IsGiven path output trace (once_read file limit text before) after

-- and it could not all be given
pub record FileIsRunInPart (file : List ℕ) (limit : ℕ) (path : Option (List ℕ))
    (Left : List ℕ → Bool → List ℕ → Option (List ℕ) → Type 0) (before after : OutputState) : Type 0 where
  pub text : List ℕ
  pub raced : Bool
  pub output : List ℕ
  pub trace : Option (List ℕ)
  pub left : Left text raced output trace
  pub given : IsGivenInPart path output trace (once_read file limit text before) after

-- the text spells no program
abbrev pub SpellsNone : List ℕ → Type 0
SpellsNone text = (program : tree.Program) → SpellsProgram text program → ⊥

-- The file that is asked for was read, and its text has no output, for a reason that ends with this status: 65 only
-- where the text spells no program. Nothing was written.
pub record FileIsRefused (file : List ℕ) (Refuses : List ℕ → EngineError → Type 0) (status : ℕ) (before after : OutputState) : Type 0 where
  pub text : List ℕ
  pub error : EngineError
  pub refused : Refuses text error
  pub status_is : status ≡ engine_status_of error
  pub spells_none : status ≡ 65 → SpellsNone text
  pub files : after.files ≡ noted before.files (Gave file file_bytes text)

-- under the settings and the schedule that are asked for, the text has no output, for this reason
pub record StepRefuses (request : StepRequest) (text : List ℕ) (error : EngineError) : Type 0 where
  pub settings : Settings
  pub entries : List Entry
  pub asks : AsksFor request settings entries
  pub refused : IsRefused text settings entries error

-- so it is of runs on threads, under the settings that are asked for
pub record RunRefuses (request : RunRequest) (text : List ℕ) (error : EngineError) : Type 0 where
  pub settings : Settings
  pub asks : AskSettings request.options settings
  pub refused : tally.IsRefused request.keep_going text settings error

-- and so of a search
pub record SearchRefuses (request : SearchRequest) (text : List ℕ) (error : EngineError) : Type 0 where
  pub settings : Settings
  pub asks : AskSettings request.options settings
  pub refused : searched.IsRefused text settings error

-- the file that is asked for was read, and is no true trace, for a reason that ends with this status
pub record ReplayIsRefused (request : ReplayRequest) (status : ℕ) (before after : OutputState) : Type 0 where
  pub bytes : List ℕ
  pub error : TraceError
  pub refused : answers.IsRefused bytes error
  pub status_is : status ≡ trace_status_of error
  pub files : after.files ≡ noted before.files (Gave request.trace.now size_limit bytes)

-- the file that is asked for gave these bytes, which are a true trace, and this is said of it: how many lines it has of
-- each kind
pub record IsSaid (request : ReplayRequest) (bytes line : List ℕ) (before after : OutputState) : Type 0 where
  pub accepted : IsLineOf bytes line
  pub files : after.files ≡ noted before.files (Gave request.trace.now size_limit bytes)

-- the file that is asked for was read, and is a true trace; what is said of it was written
pub record ReplayIsDone (request : ReplayRequest) (before after : OutputState) : Type 0 where
  pub bytes : List ℕ
  pub line : List ℕ
  pub said : IsSaid request bytes line before after
  pub written : after.written ≡ appended before.written line

-- standard output took but a beginning of it
pub record ReplayIsCut (request : ReplayRequest) (before after : OutputState) : Type 0 where
  pub bytes : List ℕ
  pub line : List ℕ
  pub said : IsSaid request bytes line before after
  pub begun : HoldsBeginning line before.written after.written

-- This is left of a trace that is drawn as it is asked, with what a litmus text says of it, if there is one: the text,
-- with ASCII alone where that is asked for, and with indices where these are, and the SVG, if it is asked for. A report
-- that the trace tells of doesn't count as one here.
pub record IsShown (request : ShowRequest) (source : Option (List ℕ)) (bytes : List ℕ) (raced : Bool) (output : List ℕ)
    (svg : Option (List ℕ)) : Type 0 where
  pub wanted : drawing.Wanted
  pub ascii : request.ascii ≡ true → wanted.style ≡ Ascii
  pub slots : wanted.slots ≡ request.slots
  pub svg_too : wanted.svg ≡ is_some request.svg
  pub drawn : IsDrawn bytes source wanted output svg
  pub unraced : raced ≡ false

-- the litmus file that a trace is of, and the text that it gave
pub record SourceFile : Type 0 where
  pub path : List ℕ
  pub text : List ℕ

abbrev pub text_of : Option SourceFile → Option (List ℕ)
text_of source = option_map (λ own. own.text) source

-- it is the one that is asked for
abbrev pub IsAskedSource : ShowRequest → Option SourceFile → Type 0
IsAskedSource request source = option_map (λ own. own.path) source ≡ option_map (λ path. path.now) request.source

-- once the trace gave these bytes, and then that file, if there is one, its text
abbrev pub once_sourced : Option SourceFile → OutputState → OutputState
once_sourced None before = before
once_sourced (Some source) before = once_read source.path file_bytes source.text before

abbrev pub once_shown : ShowRequest → (bytes : List ℕ) → Option SourceFile → OutputState → OutputState
once_shown request bytes source before = once_sourced source (once_read request.trace.now size_limit bytes before)

-- the files that are asked for were read, the trace was drawn, and what is left of that was given
pub record ShowIsDone (request : ShowRequest) (raced : Bool) (before after : OutputState) : Type 0 where
  pub bytes : List ℕ
  pub source : Option SourceFile
  pub asked : IsAskedSource request source
  pub output : List ℕ
  pub svg : Option (List ℕ)
  pub left : IsShown request (text_of source) bytes raced output svg
  pub given : IsGiven (svg_path request) output svg (once_shown request bytes source before) after

-- and it could not all be given
pub record ShowIsCut (request : ShowRequest) (before after : OutputState) : Type 0 where
  pub bytes : List ℕ
  pub source : Option SourceFile
  pub asked : IsAskedSource request source
  pub raced : Bool
  pub output : List ℕ
  pub svg : Option (List ℕ)
  pub left : IsShown request (text_of source) bytes raced output svg
  pub given : IsGivenInPart (svg_path request) output svg (once_shown request bytes source before) after

-- the files that are asked for were read, and nothing is drawn, for a reason that ends with this status
pub record ShowIsRefused (request : ShowRequest) (status : ℕ) (before after : OutputState) : Type 0 where
  pub bytes : List ℕ
  pub source : Option SourceFile
  pub asked : IsAskedSource request source
  pub failure : Failure
  pub undrawn : IsNotDrawn bytes (text_of source) failure
  pub status_is : status ≡ status_of failure
  pub files : after.files ≡ (once_shown request bytes source before).files

-- what a search was asked to find was found, with a report or without one, and others remain or none
abbrev pub SearchIsDone : SearchRequest → (raced stopped : Bool) → OutputState → OutputState → Type 0
SearchIsDone request raced stopped before after = FileIsRun request.file.now file_bytes (trace_path request.options) (IsFound request stopped) raced before after

-- the status that ends what was done: whether there was a report, and whether a search was stopped
abbrev pub end_status_of : (raced stopped : Bool) → ℕ
end_status_of true stopped = 2
end_status_of false true = 75
end_status_of false false = 0

-- `check` ended so, whatever standard error was told and however often a read failed
abbrev pub CheckIsEnded : CheckRequest → (status : ℕ) → OutputState → OutputState → Type 0
CheckIsEnded request status before after = (told later : Option (List Complaint)) × (faults more : ℕ) × CheckEnds request status
    (record { written = before.written; failures = before.failures; files = before.files; told = told; faults = faults })
    (record { written = after.written; failures = after.failures; files = after.files; told = later; faults = more })

-- so it is of `races`
abbrev pub RacesAreEnded : RacesRequest → (status : ℕ) → OutputState → OutputState → Type 0
RacesAreEnded request status before after = (told later : Option (List Complaint)) × (faults more : ℕ) × AllRacesEnd request status
    (record { written = before.written; failures = before.failures; files = before.files; told = told; faults = faults })
    (record { written = after.written; failures = after.failures; files = after.files; told = later; faults = more })

-- and of a search of several files
abbrev pub SearchesAreEnded : SearchesRequest → (status : ℕ) → OutputState → OutputState → Type 0
SearchesAreEnded request status before after = (told later : Option (List Complaint)) × (faults more : ℕ) × SearchesEnd request status
    (record { written = before.written; failures = before.failures; files = before.files; told = told; faults = faults })
    (record { written = after.written; failures = after.failures; files = after.files; told = later; faults = more })

-- and of the parts of a search that are joined
abbrev pub JoinIsEnded : JoinRequest → (status : ℕ) → OutputState → OutputState → Type 0
JoinIsEnded request status before after = (told later : Option (List Complaint)) × (faults more : ℕ) × JoinEnds request status
    (record { written = before.written; failures = before.failures; files = before.files; told = told; faults = faults })
    (record { written = after.written; failures = after.failures; files = after.files; told = later; faults = more })

-- the calls that are read were written, and no file was touched
pub record CallsAreGiven (before after : OutputState) : Type 0 where
  pub written : after.written ≡ appended before.written calls_text
  pub files : after.files ≡ before.files

-- standard output took but a beginning of them
pub record CallsAreCut (before after : OutputState) : Type 0 where
  pub begun : HoldsBeginning calls_text before.written after.written
  pub files : after.files ≡ before.files

-- what is asked was done, with a report or without one; without one in none of all lists, where it is a search; with a
-- race in some file or in none, where races are asked for
abbrev pub IsDone : Request → Bool → OutputState → OutputState → Type 0
IsDone (requests.Step request) raced before after =
    FileIsRun request.file.now file_bytes (trace_path request.options) (IsLeft request) raced before after
IsDone (requests.Run request) raced before after = FileIsRun request.file.now file_bytes (trace_path request.options) (AreLeft request) raced before after
IsDone (requests.Search request) true before after = (stopped : Bool) × SearchIsDone request true stopped before after
IsDone (requests.Search request) false before after = SearchIsDone request false false before after
IsDone (requests.Searches request) true before after = SearchesAreEnded request 2 before after
IsDone (requests.Searches request) false before after = SearchesAreEnded request 0 before after
IsDone (requests.Races request) true before after = RacesAreEnded request 2 before after
IsDone (requests.Races request) false before after = RacesAreEnded request 0 before after
IsDone (requests.Replay request) true before after = ⊥
IsDone (requests.Replay request) false before after = ReplayIsDone request before after
IsDone (requests.Show request) raced before after = ShowIsDone request raced before after
IsDone (requests.Check request) true before after = ⊥
IsDone (requests.Check request) false before after = CheckIsEnded request 0 before after
IsDone (requests.Join request) true before after = JoinIsEnded request 2 before after
IsDone (requests.Join request) false before after = JoinIsEnded request 0 before after
IsDone requests.Calls true before after = ⊥
IsDone requests.Calls false before after = CallsAreGiven before after

-- a search that is asked for was stopped, with no report so far, or that of a file's races, with no race so far
abbrev pub IsStopped : Request → OutputState → OutputState → Type 0
IsStopped (requests.Step request) before after = ⊥
IsStopped (requests.Run request) before after = ⊥
IsStopped (requests.Search request) before after = SearchIsDone request false true before after
IsStopped (requests.Searches request) before after = SearchesAreEnded request 75 before after
IsStopped (requests.Races request) before after = RacesAreEnded request 75 before after
IsStopped (requests.Replay request) before after = ⊥
IsStopped (requests.Show request) before after = ⊥
IsStopped (requests.Check request) before after = ⊥
IsStopped (requests.Join request) before after = JoinIsEnded request 75 before after
IsStopped requests.Calls before after = ⊥

-- what is asked was done, and not all of it could be written
abbrev pub IsCut : Request → OutputState → OutputState → Type 0
IsCut (requests.Step request) before after = FileIsRunInPart request.file.now file_bytes (trace_path request.options) (IsLeft request) before after
IsCut (requests.Run request) before after = FileIsRunInPart request.file.now file_bytes (trace_path request.options) (AreLeft request) before after
IsCut (requests.Search request) before after =
    (stopped : Bool) × FileIsRunInPart request.file.now file_bytes (trace_path request.options) (IsFound request stopped) before after
IsCut (requests.Searches request) before after = SearchesAreEnded request 74 before after
IsCut (requests.Races request) before after = RacesAreEnded request 74 before after
IsCut (requests.Replay request) before after = ReplayIsCut request before after
IsCut (requests.Show request) before after = ShowIsCut request before after
IsCut (requests.Check request) before after = CheckIsEnded request 74 before after
IsCut (requests.Join request) before after = JoinIsEnded request 74 before after
IsCut requests.Calls before after = CallsAreCut before after

-- what is asked was refused of the file that it is about
abbrev pub IsRefusedOf : Request → (status : ℕ) → OutputState → OutputState → Type 0
IsRefusedOf (requests.Step request) status before after = FileIsRefused request.file.now (StepRefuses request) status before after
IsRefusedOf (requests.Run request) status before after = FileIsRefused request.file.now (RunRefuses request) status before after
IsRefusedOf (requests.Search request) status before after = FileIsRefused request.file.now (SearchRefuses request) status before after
IsRefusedOf (requests.Searches request) status before after = SearchesAreEnded request status before after
IsRefusedOf (requests.Races request) status before after = RacesAreEnded request status before after
IsRefusedOf (requests.Replay request) status before after = ReplayIsRefused request status before after
IsRefusedOf (requests.Show request) status before after = ShowIsRefused request status before after
IsRefusedOf (requests.Check request) status before after = CheckIsEnded request status before after
IsRefusedOf (requests.Join request) status before after = JoinIsEnded request status before after
IsRefusedOf requests.Calls status before after = ⊥

-- the schedule or the place list that is asked for doesn't read
abbrev pub DoesNotRead : Request → Type 0
DoesNotRead (requests.Step request) = SpellsNoSchedule request.schedule.now ⊎ SpellsNoPlaces request.options.places.now
DoesNotRead (requests.Run request) = SpellsNoPlaces request.options.places.now
DoesNotRead (requests.Search request) = SpellsNoPlaces request.options.places.now
DoesNotRead (requests.Searches request) = SpellsNoPlaces request.options.places.now
DoesNotRead (requests.Races request) = SpellsNoPlaces request.options.places.now
DoesNotRead (requests.Replay request) = ⊥
DoesNotRead (requests.Show request) = ⊥
DoesNotRead (requests.Check request) = SpellsNoSchedule request.schedule.now ⊎ SpellsNoPlaces request.places.now
DoesNotRead (requests.Join request) = ⊥
DoesNotRead requests.Calls = ⊥

-- Schedule or place list don't read, and no file was touched; or the file that is asked for was read, and they don't
-- suit its program; or that file would be overwritten, and no file was touched.
abbrev pub IsMisused : Request → OutputState → OutputState → Type 0
IsMisused request before after = (DoesNotRead request × (after.files ≡ before.files)) ⊎ IsRefusedOf request 64 before after
    ⊎ (((path : List ℕ) × Overwrites request path) × (after.files ≡ before.files))

-- the schedule and the place list that are asked for do read
abbrev pub DoesRead : Request → Type 0
DoesRead (requests.Step request) = (settings : Settings) × (entries : List Entry) × AsksFor request settings entries
DoesRead (requests.Run request) = (settings : Settings) × AskSettings request.options settings
DoesRead (requests.Search request) = (settings : Settings) × AskSettings request.options settings
DoesRead (requests.Searches request) = (settings : Settings) × AskSettings request.options settings
DoesRead (requests.Races request) = (settings : Settings) × AskSettings request.options settings
DoesRead (requests.Replay request) = Unit {0}
DoesRead (requests.Show request) = Unit {0}
DoesRead (requests.Check request) = (settings : Settings) × CheckAsksFor request settings
DoesRead (requests.Join request) = Unit {0}
DoesRead requests.Calls = Unit {0}

-- it is a check of several files, asks for the races of several or for a page, for a search of several or one for
-- programs that read what is found, or for parts of a search to be joined
abbrev pub IsOfSeveral : Request → Type 0
IsOfSeveral (requests.Step request) = ⊥
IsOfSeveral (requests.Run request) = ⊥
IsOfSeveral (requests.Search request) = ⊥
IsOfSeveral (requests.Searches request) = Unit {0}
IsOfSeveral (requests.Races request) = AreSeveral request ⊎ (is_some request.html ≡ true)
IsOfSeveral (requests.Replay request) = ⊥
IsOfSeveral (requests.Show request) = ⊥
IsOfSeveral (requests.Check request) = IsSeveral request
IsOfSeveral (requests.Join request) = Unit {0}
IsOfSeveral requests.Calls = ⊥

-- Standard error is told of what is asked in words of their own: of several files of each, and of a file that would be
-- overwritten that.
abbrev pub IsToldApart : Request → Type 0
IsToldApart request = IsOfSeveral request ⊎ ((path : List ℕ) × Overwrites request path)

-- where it is a check: how it ended, with what standard error was told of each file
abbrev pub IsChecked : Request → (status : ℕ) → DeskState → DeskState → Type 0
IsChecked (requests.Step request) status before after = Unit {0}
IsChecked (requests.Run request) status before after = Unit {0}
IsChecked (requests.Search request) status before after = Unit {0}
IsChecked (requests.Searches request) status before after = Unit {0}
IsChecked (requests.Races request) status before after = Unit {0}
IsChecked (requests.Replay request) status before after = Unit {0}
IsChecked (requests.Show request) status before after = Unit {0}
IsChecked (requests.Check request) status before after = CheckEnds request status before after
IsChecked (requests.Join request) status before after = Unit {0}
IsChecked requests.Calls status before after = Unit {0}

-- where races are asked for: how that ended, with what standard error was told of each file, or that a file was kept
-- which the page would overwrite
abbrev pub AreRaced : Request → (status : ℕ) → DeskState → DeskState → Type 0
AreRaced (requests.Step request) status before after = Unit {0}
AreRaced (requests.Run request) status before after = Unit {0}
AreRaced (requests.Search request) status before after = Unit {0}
AreRaced (requests.Searches request) status before after = Unit {0}
AreRaced (requests.Races request) status before after =
    AllRacesEnd request status before after ⊎ ((path : List ℕ) × Overwrites (requests.Races request) path × IsKept path status before after)
AreRaced (requests.Replay request) status before after = Unit {0}
AreRaced (requests.Show request) status before after = Unit {0}
AreRaced (requests.Check request) status before after = Unit {0}
AreRaced (requests.Join request) status before after = Unit {0}
AreRaced requests.Calls status before after = Unit {0}

-- where a search of several files is asked for: how that ended, with what standard error was told of each file
abbrev pub AreFilesSearched : Request → (status : ℕ) → DeskState → DeskState → Type 0
AreFilesSearched (requests.Step request) status before after = Unit {0}
AreFilesSearched (requests.Run request) status before after = Unit {0}
AreFilesSearched (requests.Search request) status before after = Unit {0}
AreFilesSearched (requests.Searches request) status before after = SearchesEnd request status before after
AreFilesSearched (requests.Races request) status before after = Unit {0}
AreFilesSearched (requests.Replay request) status before after = Unit {0}
AreFilesSearched (requests.Show request) status before after = Unit {0}
AreFilesSearched (requests.Check request) status before after = Unit {0}
AreFilesSearched (requests.Join request) status before after = Unit {0}
AreFilesSearched requests.Calls status before after = Unit {0}

-- where the parts of a search are to be joined: how that ended, with what standard error was told
abbrev pub AreJoined : Request → (status : ℕ) → DeskState → DeskState → Type 0
AreJoined (requests.Step request) status before after = Unit {0}
AreJoined (requests.Run request) status before after = Unit {0}
AreJoined (requests.Search request) status before after = Unit {0}
AreJoined (requests.Searches request) status before after = Unit {0}
AreJoined (requests.Races request) status before after = Unit {0}
AreJoined (requests.Replay request) status before after = Unit {0}
AreJoined (requests.Show request) status before after = Unit {0}
AreJoined (requests.Check request) status before after = Unit {0}
AreJoined (requests.Join request) status before after = JoinEnds request status before after
AreJoined requests.Calls status before after = Unit {0}

-- the read of a file failed where the status is 66, and nowhere else
pub record Reads (status : ℕ) (before after : ℕ) : Type 0 where
  pub fails : status ≡ 66 → CountsFailure before after
  pub works : status ≢ 66 → after ≡ before

-- it doesn't say that a file would be overwritten
abbrev pub IsOfNoOverwrite : Complaint → Type 0
IsOfNoOverwrite (complaint.Usage error) = Unit {0}
IsOfNoOverwrite (complaint.Failure error) = Unit {0}
IsOfNoOverwrite (complaint.Explained error lines) = Unit {0}
IsOfNoOverwrite (complaint.Overwrites lines) = ⊥
IsOfNoOverwrite (complaint.Unjoined lines) = Unit {0}
IsOfNoOverwrite (complaint.Warned lines) = Unit {0}

-- standard error was told nothing below 64 and at 75, and from 64 to 74 one thing, which comes with this status, and
-- isn't that a file would be overwritten
pub record StatusComplaint (status : ℕ) (before after : Option (List Complaint)) : Type 0 where
  pub quiet : status < 64 → after ≡ before
  pub stopped : status ≡ 75 → after ≡ before
  pub told : 64 ≤ status → status ≤ 74 → (said : Complaint) × (complaint_status_of said ≡ status) × IsOfNoOverwrite said
      × (after ≡ heard before said)

-- what standard error was told first of what is asked, which ends with this status: of a check, whose file reads, its
-- warnings, and else nothing
abbrev pub WarnsFirst : Request → (status : ℕ) → (before first : Option (List Complaint)) → Type 0
WarnsFirst (requests.Step request) status before first = first ≡ before
WarnsFirst (requests.Run request) status before first = first ≡ before
WarnsFirst (requests.Search request) status before first = first ≡ before
WarnsFirst (requests.Searches request) status before first = first ≡ before
WarnsFirst (requests.Races request) status before first = first ≡ before
WarnsFirst (requests.Replay request) status before first = first ≡ before
WarnsFirst (requests.Show request) status before first = first ≡ before
WarnsFirst (requests.Check request) status before first =
    (first ≡ before) ⊎ (((status ≡ 0) ⊎ (status ≡ 74)) × ((warnings : List ℕ) × IsWarned warnings before first))
WarnsFirst (requests.Join request) status before first = first ≡ before
WarnsFirst requests.Calls status before first = first ≡ before

-- what standard error was told of what is asked: that first, and then what comes with this status
abbrev pub IsToldWith : Request → (status : ℕ) → (before after : Option (List Complaint)) → Type 0
IsToldWith request status before after =
    (first : Option (List Complaint)) × WarnsFirst request status before first × StatusComplaint status first after

-- an error of the words themselves: neither want of memory nor help nor the version
abbrev pub IsFault : ErrorKind → Type 0
IsFault kind = (kind ≢ kinds.OutOfMemory) × (kind ≢ kinds.DisplayHelp) × (kind ≢ kinds.DisplayVersion)

-- the words are at fault, and that was told, as it may be said of them
pub record UsageIsTold (words : List (List ℕ)) (before after : Option (List Complaint)) : Type 0 where
  pub error : Error
  pub may : MayFail words (kind_of error)
  pub fault : IsFault (kind_of error)
  pub told : after ≡ heard before (complaint.Usage error)

-- the status says that a file is refused, or that a task is stuck
abbrev pub IsOfFile : ℕ → Type 0
IsOfFile status = (status ≡ 65) ⊎ (status ≡ 70)

-- the words ask for something of which this holds
abbrev pub AskForOne : (words : List (List ℕ)) → (Request → Type 0) → Type 0
AskForOne words Holds = (request : Request) × MayBeAsked request × Ask words request × Holds request

-- the words ask for help, a text was written, and no file was touched
pub record HelpIsGiven (words : List (List ℕ)) (before after : OutputState) : Type 0 where
  pub asked : AskForHelp words
  pub text : List ℕ
  pub written : after.written ≡ appended before.written text
  pub files : after.files ≡ before.files

-- the words ask for help, and standard output took but a beginning of the text
pub record HelpIsCut (words : List (List ℕ)) (before after : OutputState) : Type 0 where
  pub asked : AskForHelp words
  pub text : List ℕ
  pub begun : HoldsBeginning text before.written after.written
  pub files : after.files ≡ before.files

-- the words ask for the version, the line that says it was written, and no file was touched
pub record VersionIsGiven (words : List (List ℕ)) (before after : OutputState) : Type 0 where
  pub asked : AskForVersion words
  pub written : after.written ≡ appended before.written version_line
  pub files : after.files ≡ before.files

-- the words ask for the version, and standard output took but a beginning of that line
pub record VersionIsCut (words : List (List ℕ)) (before after : OutputState) : Type 0 where
  pub asked : AskForVersion words
  pub begun : HoldsBeginning version_line before.written after.written
  pub files : after.files ≡ before.files

-- nothing was written: standard output has what it had, and one file was read at most
pub record NothingIsWritten (before after : OutputState) : Type 0 where
  pub written : after.written ≡ before.written
  pub files : OnlyRead before.files after.files

-- a picture is asked for with what a litmus file says of the trace
abbrev pub IsWithSource : Request → Type 0
IsWithSource (requests.Step request) = ⊥
IsWithSource (requests.Run request) = ⊥
IsWithSource (requests.Search request) = ⊥
IsWithSource (requests.Searches request) = ⊥
IsWithSource (requests.Races request) = ⊥
IsWithSource (requests.Replay request) = ⊥
IsWithSource (requests.Show request) = is_some request.source ≡ true
IsWithSource (requests.Check request) = ⊥
IsWithSource (requests.Join request) = ⊥
IsWithSource requests.Calls = ⊥

-- one file was read at most; for such a picture two
abbrev pub OnlyReadFor : Request → Option (List FileEvent) → Option (List FileEvent) → Type 0
OnlyReadFor request before after = OnlyRead before after
    ⊎ (IsWithSource request × ((middle : Option (List FileEvent)) × OnlyRead before middle × OnlyRead middle after))

-- nothing was written for what is asked
pub record NothingIsWrittenFor (request : Request) (before after : OutputState) : Type 0 where
  pub written : after.written ≡ before.written
  pub files : OnlyReadFor request before.files after.files

-- what each status from 64 to 74 says, and which statuses there are
pub record EndsAs (status : ℕ) (before after : OutputState) : Type 0 where
  -- from 64 to 71, nothing was written
  pub silent : 64 ≤ status → status ≤ 71 → NothingIsWritten before after
  -- standard output or the trace's file could not be written
  pub failed : status ≡ 74 → CountsFailure before.failures after.failures
  -- no other status
  pub known : (status ≡ 0) ⊎ (status ≡ 2) ⊎ ((64 ≤ status) × (status ≤ 66))
      ⊎ (status ≡ 70) ⊎ (status ≡ 71) ⊎ (status ≡ 74) ⊎ (status ≡ 75)

-- the same of what is asked
pub record EndsFor (request : Request) (status : ℕ) (before after : OutputState) : Type 0 where
  pub silent : 64 ≤ status → status ≤ 71 → NothingIsWrittenFor request before after
  pub failed : status ≡ 74 → CountsFailure before.failures after.failures
  pub known : (status ≡ 0) ⊎ (status ≡ 2) ⊎ ((64 ≤ status) × (status ≤ 66))
      ⊎ (status ≡ 70) ⊎ (status ≡ 71) ⊎ (status ≡ 74) ⊎ (status ≡ 75)

-- the words ask for help or the version, or are at fault: no file was read, and so much was told and written as the status says
pub record AreAnswered (words : List (List ℕ)) (status : ℕ) (before after : DeskState) : Type 0 where
  pub kind : ErrorKind
  pub other : kind ≢ kinds.OutOfMemory
  pub may : MayFail words kind
  pub faults : after.faults ≡ before.faults
  pub tells : StatusComplaint status before.told after.told
  pub ends : EndsAs status (state_in before) (state_in after)

-- The words ask for something of which this holds; or for help or the version, or they are at fault, and that was
-- answered; or memory ran out over them, which was told, and nothing else was done.
abbrev pub OfAsked : (words : List (List ℕ)) → (status : ℕ) → (before after : DeskState) → (Request → Type 0) → Type 0
OfAsked words status before after Holds =
    AskForOne words Holds ⊎ AreAnswered words status before after ⊎ IsOutOfMemory status before after
