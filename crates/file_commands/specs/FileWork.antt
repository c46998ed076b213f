-- What is done with litmus files that are gone over one after the other.
use Rattle.std.specs.Prelude.{◌≡◌, ◌≢◌, ◌<◌, ◌^◌, ◌⊎◌, ◌+◌, ◌++◌, ◌∷◌, ◌&&◌, ◌||◌, ℕ, All, Bool, List, [], None, Option, Some, false, fold}
use Rattle.std.specs.Prelude.{if◌then◌else◌, length, map}
use Rattle.std.specs.Prelude.{nat_lt, take, true}
use Rattle.std.specs.Borrow.{Bor}
use Rattle.std.specs.List.{flat_map}
use Rattle.cli.specs.declared.request.RunOptions.{RunOptions}
use Rattle.diagnostics.specs.check_output.Diagnosis.{Diagnosis, Gave, IsFound, Lost, has_tables, name_of, status_of_one}
use Rattle.diagnostics.specs.declared.check_output.file.Files.{Files}
use Rattle.diagnostics.specs.declared.text_check.checked.Check.{Check}
use Rattle.diagnostics.specs.declared.text_check.checked.Check.TheVariants as checks
use Rattle.file_commands.specs.Check.{IsGoneOver, IsLeftOver, IsOutOfMemory, IsPrinted, IsToldOf}
use Rattle.file_commands.specs.Desks.{DeskState, once_told}
use Rattle.file_commands.specs.Files.{noted}
use Rattle.file_commands.specs.Files as events
use Rattle.file_commands.specs.Lists.{SpellsNoPlaces}
use Rattle.file_commands.specs.Settings.{AskSettings}
use Rattle.file_commands.specs.Statuses.{engine_status_of}
use Rattle.file_commands.specs.declared.failure.Failure.TheVariants as failure
use Rattle.file_commands.specs.declared.complaint.Complaint.{Complaint}
use Rattle.file_commands.specs.declared.complaint.Complaint.TheVariants as complaints
use Rattle.file_commands.specs.declared.files.FileSaid.{FileSaid}
use Rattle.file_search.specs.Work.{is_text, has_rows, IsFoundIn, IsClearText, worse, under_name, unsearched_text, heading_of, last_line_of}
use Rattle.file_search.specs.declared.work.Work.{Work}
use Rattle.litmus_parse.specs.Text.{file_bytes}
use Rattle.prepared_program.specs.declared.program_sites.settings.Settings.{Settings}
use Rattle.output_pieces.specs.declared.file_counts.FileCounts.{FileCounts}
use Rattle.race_output.specs.declared.words.FileVerdict.{FileVerdict}
use Rattle.race_output.specs.declared.words.FileVerdict.TheVariants as verdicts
use Rattle.report_text.specs.Sink.{CountsFailure}
use Rattle.run_output.specs.declared.error.EngineError.{EngineError}
use Rattle.run_output.specs.declared.error.EngineError.TheVariants as engine
use Rattle.search_formats.specs.declared.refusal.Refusal.{Refusal}
use Rattle.search_formats.specs.declared.refusal.Refusal.TheVariants as refusals
use Rattle.search_output.specs.Texts.{IsRefused}

-- the names of the files, the options, what is done with each file, and how many threads may share several files
pub record Asked : Type 0 where
  pub files : List (Bor (List ℕ))
  pub options : RunOptions
  pub work : Work
  pub jobs : ℕ

-- there are several files
abbrev pub AreSeveral : Asked → Type 0
AreSeveral asked = 1 < length asked.files

-- what `check` would be asked of all files
abbrev pub files_of : Asked → Files
files_of asked = record { several = nat_lt 1 (length asked.files); print = false }

-- each file goes under its name, and a line counts them all: there are several, and text is asked for
abbrev pub has_names : Asked → Bool
has_names asked = nat_lt 1 (length asked.files) && is_text asked.work

-- more is printed than the output of one file
abbrev pub is_more : Asked → Bool
is_more asked = nat_lt 1 (length asked.files) || has_rows asked.work

-- What was found of a file. It gave a text that was looked into: the output, and the verdict. It gave one that
-- has no output, for this reason. Or it is passed over, as `check` finds: its text isn't read as a program, or it can't
-- be read.
pub data FileFound : Type 0 where
  Searched : (name text output : List ℕ) → (verdict : FileVerdict) → FileFound
  Refused : (name text : List ℕ) → (error : EngineError) → FileFound
  PassedOver : (why : Diagnosis) → FileFound

abbrev pub file_of : FileFound → List ℕ
file_of (Searched name text output verdict) = name
file_of (Refused name text error) = name
file_of (PassedOver why) = name_of why

-- what was found is so, under these settings; want of memory is no finding
abbrev pub IsFileFound : Work → Settings → FileFound → Type 0
IsFileFound work settings (Searched name text output verdict) = IsFoundIn work settings name text output verdict
IsFileFound work settings (Refused name text error) = IsRefused text settings error × (engine_status_of error ≢ 71)
IsFileFound work settings (PassedOver why) = IsFound settings why × (has_tables why ≡ false)

-- the file gave a text, of which this is so
abbrev pub IsClear : Work → Settings → FileFound → Type 0
IsClear work settings (Searched name text output verdict) = IsClearText work settings name text output
IsClear work settings (Refused name text error) = ⊥
IsClear work settings (PassedOver why) = ⊥

-- the status for a verdict
abbrev pub verdict_status_of : FileVerdict → ℕ
verdict_status_of verdicts.Free = 0
verdict_status_of verdicts.Reported = 2
verdict_status_of verdicts.Missed = 2
verdict_status_of verdicts.Stopped = 75

-- the status that a file alone ends with
abbrev pub file_status_of : FileFound → ℕ
file_status_of (Searched name text output verdict) = verdict_status_of verdict
file_status_of (Refused name text error) = engine_status_of error
file_status_of (PassedOver why) = status_of_one why

-- of these statuses that which counts: that of all files
abbrev pub status_of_all : Work → List FileFound → ℕ
status_of_all work founds = fold (worse work) 0 (map file_status_of founds)

-- why a text has no output
abbrev pub refusal_in : EngineError → Refusal
refusal_in (engine.Text error) = refusals.Text error
refusal_in (engine.Run error) = refusals.BadPlace
refusal_in engine.SinkFailed = refusals.BadPlace

-- why a text isn't read as a program
abbrev pub refusal_by : Check → Refusal
refusal_by (checks.Reads tables printed warnings) = refusals.BadPlace
refusal_by (checks.Misplaced why) = refusals.BadPlace
refusal_by (checks.Refused error why) = refusals.Text error

-- the status of a text that isn't read as a program, and why it isn't
abbrev pub refused_by : Check → Option (ℕ × Refusal)
refused_by (checks.Reads tables printed warnings) = None
refused_by (checks.Misplaced why) = Some (64, refusals.BadPlace)
refused_by (checks.Refused error why) = Some (65, refusals.Text error)

-- why a file is passed over
abbrev pub refusal_of : Diagnosis → Refusal
refusal_of (Gave name text check) = refusal_by check
refusal_of (Lost name) = refusals.CannotRead

-- what is printed of a file
abbrev pub printed_of : (names : Bool) → Work → FileFound → List ℕ
printed_of names work (Searched name text output verdict) = if names then under_name work name output else output
printed_of names work (Refused name text error) = unsearched_text work name (engine_status_of error) (refusal_in error)
printed_of names work (PassedOver why) = unsearched_text work (name_of why) (status_of_one why) (refusal_of why)

-- the verdict on a file, if it has one
abbrev pub verdict_in : FileFound → Option FileVerdict
verdict_in (Searched name text output verdict) = Some verdict
verdict_in (Refused name text error) = None
verdict_in (PassedOver why) = None

-- this is said of a file of which this was found
pub record IsSaidOf (names : Bool) (work : Work) (found : FileFound) (said : FileSaid) : Type 0 where
  pub text_is : said.text.items ≡ printed_of names work found
  pub verdict_is : said.verdict ≡ verdict_in found
  pub status_is : said.status ≡ file_status_of found

-- no file was counted
abbrev pub no_counts : FileCounts
no_counts = record { free = 0; reported = 0; missed = 0; refused = 0; stopped = 0 }

-- one file more can be counted of each kind
pub record CanCount (counts : FileCounts) : Type 0 where
  pub free : counts.free + 1 < 2 ^ 64
  pub reported : counts.reported + 1 < 2 ^ 64
  pub missed : counts.missed + 1 < 2 ^ 64
  pub refused : counts.refused + 1 < 2 ^ 64
  pub stopped : counts.stopped + 1 < 2 ^ 64

-- one file more, with this verdict
abbrev pub counted : FileCounts → Option FileVerdict → FileCounts
counted counts (Some verdicts.Free) = record counts { free = counts.free + 1 }
counted counts (Some verdicts.Reported) = record counts { reported = counts.reported + 1 }
counted counts (Some verdicts.Missed) = record counts { missed = counts.missed + 1 }
counted counts (Some verdicts.Stopped) = record counts { stopped = counts.stopped + 1 }
counted counts None = record counts { refused = counts.refused + 1 }

-- how many files have which verdict, or none
abbrev pub counts_of : List FileFound → FileCounts
counts_of founds = fold counted no_counts (map verdict_in founds)

-- what is printed of all files: of several, as text, with a line behind that counts them
abbrev pub files_output_of : (names : Bool) → Work → List FileFound → List ℕ
files_output_of names work founds =
    heading_of work ++ flat_map (printed_of names work) founds ++ (if names then last_line_of work (counts_of founds) else [])

-- once a file of a name gave this text
abbrev pub once_given : (name text : List ℕ) → DeskState → DeskState
once_given name text before = record before { files = noted before.files (events.Gave name file_bytes text) }

-- a text is passed over only where there are several files: that of one alone is refused as `step` refuses it
abbrev pub MayBePassedOver : Files → Diagnosis → Type 0
MayBePassedOver files (Gave name text check) = files.several ≡ true
MayBePassedOver files (Lost name) = Unit {0}

-- A file was asked for, and this was found of it: its text was read, and standard error was told what is to be told of
-- it: nothing where it has a verdict, and else what `step` says of a text that has no output, or what `check` says.
abbrev pub IsLookedInto : Files → FileFound → DeskState → DeskState → Type 0
IsLookedInto files (Searched name text output verdict) before after = after ≡ once_given name text before
IsLookedInto files (Refused name text error) before after =
    after ≡ once_told (complaints.Failure (failure.Engine error)) (once_given name text before)
IsLookedInto files (PassedOver why) before after = MayBePassedOver files why × IsGoneOver files why before after

-- this is said of a file of a name that was looked into: so much was found, and told
pub record IsLookedAt (asked : Asked) (settings : Settings) (name : List ℕ) (said : FileSaid) (before after : DeskState) : Type 0 where
  pub found : FileFound
  pub file_is : file_of found ≡ name
  pub is_found : IsFileFound asked.work settings found
  pub said_is : IsSaidOf (has_names asked) asked.work found said
  pub looked_into : IsLookedInto (files_of asked) found before after

-- a text of a file of this name has no output, for this reason: that was told, and this is said of it
pub record IsRefusedFor (work : Work) (name : List ℕ) (error : EngineError) (said : FileSaid) (before after : DeskState) : Type 0 where
  pub status_is : said.status ≡ engine_status_of error
  pub some : said.status ≢ 71
  pub text_is : said.text.items ≡ unsearched_text work name (engine_status_of error) (refusal_in error)
  pub verdict_is : said.verdict ≡ None
  pub told : after ≡ once_told (complaints.Failure (failure.Engine error)) before

-- a file of this name can't be read: that was told, and this is said of it
pub record IsLostOf (asked : Asked) (name : List ℕ) (said : FileSaid) (before after : DeskState) : Type 0 where
  pub status_is : said.status ≡ 66
  pub text_is : said.text.items ≡ unsearched_text asked.work name 66 refusals.CannotRead
  pub verdict_is : said.verdict ≡ None
  pub complaint : Complaint
  pub told : after ≡ once_told complaint before
  pub is_told : IsToldOf (files_of asked) (Lost name) before.told after.told

-- so it was with file after file
abbrev pub AreLookedInto : Files → List FileFound → DeskState → DeskState → Type 0
AreLookedInto files [] before after = after ≡ before
AreLookedInto files (found ∷ more) before after =
    (middle : DeskState) × IsLookedInto files found before middle × AreLookedInto files more middle after

-- the first files, as many as these, were looked into in their order, under the settings that are asked for, and this
-- was found of them
pub record LooksInto (asked : Asked) (founds : List FileFound) (before after : DeskState) : Type 0 where
  pub settings : Settings
  pub asks : AskSettings asked.options settings
  pub names : map file_of founds ≡ take (length founds) (map (λ file. file.now) asked.files)
  pub are_found : All (IsFileFound asked.work settings) founds
  pub looked_into : AreLookedInto (files_of asked) founds before after

-- All files were looked into. This is printed of them, in order. The status is that which counts of those that they
-- would have alone; so at 0 each file gave a text, whose program is clear.
pub record AreSearched (asked : Asked) (output : List ℕ) (status : ℕ) (before after : DeskState) : Type 0 where
  pub founds : List FileFound
  pub all : length founds ≡ length asked.files
  pub looks : LooksInto asked founds before after
  pub output_is : output ≡ files_output_of (has_names asked) asked.work founds
  pub status_is : status ≡ status_of_all asked.work founds
  pub clear : status ≡ 0 → All (IsClear asked.work looks.settings) founds

-- all files were looked into, and what is printed of them was printed, as far as standard output took it
pub record FilesAreSearched (asked : Asked) (ends : ℕ) (before after : DeskState) : Type 0 where
  pub output : List ℕ
  pub status : ℕ
  pub middle : DeskState
  pub searched : AreSearched asked output status before middle
  pub printed : IsPrinted output status ends middle after

-- memory ran out over a file, or over what is printed besides
pub record AreLeftOut (asked : Asked) (before after : DeskState) : Type 0 where
  pub founds : List FileFound
  pub left : (length founds < length asked.files) ⊎ (is_more asked ≡ true)
  pub middle : DeskState
  pub looks : LooksInto asked founds before middle
  pub over : IsLeftOver (is_more asked) middle after

-- so it was, and nothing was printed
pub record FilesAreLeftOut (asked : Asked) (status : ℕ) (before after : DeskState) : Type 0 where
  pub middle : DeskState
  pub left : AreLeftOut asked before middle
  pub status_is : status ≡ 71
  pub told : after ≡ once_told (complaints.Failure failure.OutOfMemory) middle

-- a file of a name was read: it gave this text, or none, where it can't be read
pub record FileRead : Type 0 where
  pub name : List ℕ
  pub text : Option (List ℕ)

-- so it was read, and nothing was told
abbrev pub IsTextRead : (name : List ℕ) → (text : Option (List ℕ)) → DeskState → DeskState → Type 0
IsTextRead name (Some text) before after = after ≡ once_given name text before
IsTextRead name None before after = (after ≡ record before { faults = after.faults }) × CountsFailure before.faults after.faults

-- so it was with file after file
abbrev pub AreRead : List FileRead → DeskState → DeskState → Type 0
AreRead [] before after = after ≡ before
AreRead (read ∷ more) before after = (middle : DeskState) × IsTextRead read.name read.text before middle × AreRead more middle after

-- Several threads were to share several files, and memory ran out. The first files were looked into, as many as these,
-- and of them what is to be told was told, in their order; files that stand behind them were read, and nothing was told
-- of these.
pub record AreLeftTogether (asked : Asked) (before after : DeskState) : Type 0 where
  pub several : AreSeveral asked
  pub jobs : 1 < asked.jobs
  pub founds : List FileFound
  pub middle : DeskState
  pub looks : LooksInto asked founds before middle
  pub reads : List FileRead
  pub names : map file_of founds ++ map (λ (read : FileRead). read.name) reads
      ≡ take (length founds + length reads) (map (λ file. file.now) asked.files)
  pub are_read : AreRead reads middle after

-- so it was, and nothing was printed
pub record FilesAreLeftTogether (asked : Asked) (status : ℕ) (before after : DeskState) : Type 0 where
  pub middle : DeskState
  pub left : AreLeftTogether asked before middle
  pub status_is : status ≡ 71
  pub told : after ≡ once_told (complaints.Failure failure.OutOfMemory) middle

-- the place list doesn't read: that was told, and no file was asked for
pub record PlacesDoNotRead (asked : Asked) (status : ℕ) (before after : DeskState) : Type 0 where
  pub unread : SpellsNoPlaces asked.options.places.now
  pub status_is : status ≡ 64
  pub told : after ≡ once_told (complaints.Failure failure.BadPlace) before

-- how a command ends that goes over files
pub data FilesEnd (asked : Asked) (status : ℕ) (before after : DeskState) : Type 0 where
  AllSearched : FilesAreSearched asked status before after → FilesEnd asked status before after
  LeftOut : FilesAreLeftOut asked status before after → FilesEnd asked status before after
  LeftTogether : FilesAreLeftTogether asked status before after → FilesEnd asked status before after
  Misplaced : PlacesDoNotRead asked status before after → FilesEnd asked status before after
  Early : IsOutOfMemory status before after → FilesEnd asked status before after
