-- What `check` does with its files.
use Rattle.std.specs.Global.{Global}
use Rattle.std.specs.Prelude.{◌≡◌, ◌<◌, ◌⊎◌, ℕ, All, Bool, List, [], ◌∷◌, None, Option, Some, Vec, false, length, map, nat_lt, take, true}
use Rattle.diagnostics.specs.check_output.Diagnosis.{Diagnosis, Gave, IsFound, Lost, greatest_status, has_tables, name_of, output_of, status_of_one}
use Rattle.diagnostics.specs.check_output.Output.{misplaced_text, unread_line}
use Rattle.diagnostics.specs.declared.check_output.file.Files.{Files}
use Rattle.diagnostics.specs.declared.check_output.told.Lines.{Lines}
use Rattle.cli.specs.declared.request.CheckRequest.{CheckRequest}
use Rattle.cli.specs.declared.request.RunOptions.{RunOptions}
use Rattle.diagnostics.specs.option_diagnostics.Places as places
use Rattle.diagnostics.specs.option_diagnostics.Schedules as schedule_items
use Rattle.file_commands.specs.Desks.{DeskState, once_told}
use Rattle.file_commands.specs.Files.{OnlyRead, noted}
use Rattle.file_commands.specs.Files as events
use Rattle.file_commands.specs.Lists.{SpellsNoPlaces, SpellsNoSchedule, SpellsSchedule}
use Rattle.file_commands.specs.Settings.{AskSettings}
use Rattle.file_commands.specs.StandardError.{heard}
use Rattle.file_commands.specs.declared.check.FileEnd.{FileEnd}
use Rattle.file_commands.specs.declared.check.FileEnd.TheVariants as ends
use Rattle.file_commands.specs.declared.failure.Failure.{Failure}
use Rattle.file_commands.specs.declared.failure.Failure.TheVariants as failure
use Rattle.file_commands.specs.declared.complaint.Complaint.{Complaint}
use Rattle.file_commands.specs.declared.complaint.Complaint.TheVariants as complaint
use Rattle.report_text.specs.Sink.{CountsFailure, HoldsBeginning, appended}
use Rattle.litmus_parse.specs.Text.{file_bytes}
use Rattle.prepared_program.specs.declared.program_sites.settings.Settings.{Settings}
use Rattle.run_output.specs.declared.error.EngineError.TheVariants as engine
use Rattle.prepared_program.specs.step_schedule.Spelling as schedules
use Rattle.prepared_program.specs.declared.step_schedule.schedule.Entry.{Entry}
use Rattle.diagnostics.specs.declared.text_check.checked.Check.TheVariants.{Misplaced, Reads, Refused}

-- there are several files
abbrev pub IsSeveral : CheckRequest → Type 0
IsSeveral request = 1 < length request.files.items

-- what is asked of all files
abbrev pub asked_of : CheckRequest → Files
asked_of request = record { several = nat_lt 1 (length request.files.items); print = request.print }

-- the options of `step`, as they are where `check` hasn't them
abbrev pub options_of : CheckRequest → RunOptions
options_of request = record {
  places = request.places;
  trace = None;
  slots = request.slots;
  skip = 0;
  randomize = false;
  seed = 1;
  value_change_only = true;
  plain_writes_atomic = true;
  layout = request.layout;
  turns = 1000000;
  located = false;
  unknown_origin = true;
}

-- these are the settings that are asked for, and the schedule that is asked for reads
pub record CheckAsksFor (request : CheckRequest) (settings : Settings) : Type 0 where
  pub settings_are : AskSettings (options_of request) settings
  pub entries : List Entry
  pub schedule : schedules.Spells request.schedule.now entries

-- standard error was told of this failure, with these lines
pub record IsExplained (error : Failure) (text : List ℕ) (before after : Option (List Complaint)) : Type 0 where
  pub lines : Lines
  pub text_is : lines.bytes.items ≡ text
  pub told : after ≡ heard before (complaint.Explained error lines)

-- what standard error was told of a file that can't be read: of several, with a line that names it
abbrev pub IsToldOfLost : (several : Bool) → (name : List ℕ) → (before after : Option (List Complaint)) → Type 0
IsToldOfLost true name before after = IsExplained failure.CannotRead (unread_line name) before after
IsToldOfLost false name before after = after ≡ heard before (complaint.Failure failure.CannotRead)

-- standard error was told of these warnings, if there are any
abbrev pub IsWarned : (warnings : List ℕ) → (before after : Option (List Complaint)) → Type 0
IsWarned [] before after = after ≡ before
IsWarned (first ∷ more) before after =
    (lines : Lines) × (lines.bytes.items ≡ first ∷ more) × (after ≡ heard before (complaint.Warned lines))

-- what standard error was told of a file of which this was found: of one that reads its warnings
abbrev pub IsToldOf : Files → Diagnosis → (before after : Option (List Complaint)) → Type 0
IsToldOf files (Gave name text (Reads tables printed warnings)) before after = IsWarned warnings.items before after
IsToldOf files (Gave name text (Misplaced why)) before after =
    IsExplained failure.BadPlace (misplaced_text files name why.items) before after
IsToldOf files (Gave name text (Refused error why)) before after =
    IsExplained (failure.Engine (engine.Text error)) why.items before after
IsToldOf files (Lost name) before after = IsToldOfLost files.several name before after

-- a file was asked for, and this was found of it: it was read, or the read failed
abbrev pub IsGoneOver : Files → Diagnosis → DeskState → DeskState → Type 0
IsGoneOver files (Gave name text check) before after =
    (after ≡ record before { files = noted before.files (events.Gave name file_bytes text); told = after.told })
    × IsToldOf files (Gave name text check) before.told after.told
IsGoneOver files (Lost name) before after =
    (after ≡ record before { told = after.told; faults = after.faults })
    × (CountsFailure before.faults after.faults × IsToldOf files (Lost name) before.told after.told)

-- so it was with file after file
abbrev pub AreGoneOver : Files → List Diagnosis → DeskState → DeskState → Type 0
AreGoneOver files [] before after = after ≡ before
AreGoneOver files (found ∷ more) before after =
    (middle : DeskState) × IsGoneOver files found before middle × AreGoneOver files more middle after

-- what came of a file of which this was found
abbrev pub IsEndOf : Diagnosis → FileEnd → Type 0
IsEndOf found ends.Read = has_tables found ≡ true
IsEndOf found (ends.Told status) = (has_tables found ≡ false) × (status ≡ status_of_one found)

-- memory ran out over a file, and nothing was told: it may have been read, or, of several, its read may have failed
pub record IsLeftOver (several : Bool) (before after : DeskState) : Type 0 where
  pub files : OnlyRead before.files after.files
  pub faults : (after.faults ≡ before.faults) ⊎ ((several ≡ true) × CountsFailure before.faults after.faults)
  pub rest : after ≡ record before { files = after.files; faults = after.faults }

-- the first files, as many as these, were gone over in their order, under the settings that are asked for, and this was
-- found of them
pub record GoesOver (request : CheckRequest) (founds : List Diagnosis) (before after : DeskState) : Type 0 where
  pub settings : Settings
  pub asks : CheckAsksFor request settings
  pub names : map name_of founds ≡ take (length founds) (map (λ file. file.now) request.files.items)
  pub are_found : All (IsFound settings) founds
  pub gone_over : AreGoneOver (asked_of request) founds before after

-- All files were gone over. This is printed of them: of each in order the tables, where it has some. The status is the
-- greatest of those that they would have alone.
pub record AreChecked (request : CheckRequest) (output : List ℕ) (status : ℕ) (before after : DeskState) : Type 0 where
  pub founds : List Diagnosis
  pub all : length founds ≡ length request.files.items
  pub goes : GoesOver request founds before after
  pub output_is : output ≡ output_of (asked_of request) founds
  pub status_is : status ≡ greatest_status founds

-- standard output failed, and took only a beginning of this, which isn't empty
pub record PrintFails (output : List ℕ) (ends : ℕ) (before after : DeskState) : Type 0 where
  pub some : 0 < length output
  pub ends_is : ends ≡ 74
  pub begun : HoldsBeginning output before.written after.written
  pub failed : CountsFailure before.failures after.failures
  pub told : after ≡ record (once_told (complaint.Failure failure.CannotWrite) before) { written = after.written; failures = after.failures }

-- this was printed, with this status, or standard output failed: so the program ends
abbrev pub IsPrinted : (output : List ℕ) → (status ends : ℕ) → DeskState → DeskState → Type 0
IsPrinted output status ends before after =
    ((ends ≡ status) × (after ≡ record before { written = appended before.written output })) ⊎ PrintFails output ends before after

-- all files were gone over, and what is printed of them was printed, as far as standard output took it
pub record FilesAreChecked (request : CheckRequest) (ends : ℕ) (before after : DeskState) : Type 0 where
  pub output : List ℕ
  pub status : ℕ
  pub middle : DeskState
  pub checked : AreChecked request output status before middle
  pub printed : IsPrinted output status ends middle after

-- memory ran out over a file, or over what is printed of several
pub record AreLeft (request : CheckRequest) (before after : DeskState) : Type 0 where
  pub founds : List Diagnosis
  pub left : (length founds < length request.files.items) ⊎ IsSeveral request
  pub middle : DeskState
  pub goes : GoesOver request founds before middle
  pub over : IsLeftOver (asked_of request).several middle after

-- so it was, and nothing was printed
pub record FilesAreLeft (request : CheckRequest) (status : ℕ) (before after : DeskState) : Type 0 where
  pub middle : DeskState
  pub left : AreLeft request before middle
  pub status_is : status ≡ 71
  pub told : after ≡ once_told (complaint.Failure failure.OutOfMemory) middle

-- what is told of a list that doesn't read, with a line on one of its items or without
abbrev pub list_complaint : Failure → Option (Vec ℕ Global) → Complaint
list_complaint error None = complaint.Failure error
list_complaint error (Some line) = complaint.Explained error (record { bytes = line })

-- a list doesn't read, and its first item that doesn't was told of
pub record IsListFault (error : Failure) (IsFault : List ℕ → Type 0) (said : Complaint) : Type 0 where
  pub lines : Lines
  pub fault : IsFault lines.bytes.items
  pub said_is : said ≡ complaint.Explained error lines

-- so it is of the schedule that is asked for, or, where that reads, of the place list
abbrev pub AreListsAtFault : CheckRequest → Complaint → Type 0
AreListsAtFault request said =
    (SpellsNoSchedule request.schedule.now × IsListFault failure.BadSchedule (schedule_items.IsFault request.schedule.now) said)
    ⊎ (SpellsSchedule request.schedule.now × SpellsNoPlaces request.places.now
    × IsListFault failure.BadPlace (places.IsFault request.places.now) said)

-- the schedule doesn't read, or the place list doesn't: that was told, and no file was asked for
pub record ListsDoNotRead (request : CheckRequest) (status : ℕ) (before after : DeskState) : Type 0 where
  pub said : Complaint
  pub at_fault : AreListsAtFault request said
  pub status_is : status ≡ 64
  pub told : after ≡ once_told said before

-- want of memory was told, with its status, and nothing else was done
pub record IsOutOfMemory (status : ℕ) (before after : DeskState) : Type 0 where
  pub status_is : status ≡ 71
  pub told : after ≡ once_told (complaint.Failure failure.OutOfMemory) before

-- how `check` ends
pub data CheckEnds (request : CheckRequest) (status : ℕ) (before after : DeskState) : Type 0 where
  Checked : FilesAreChecked request status before after → CheckEnds request status before after
  Left : FilesAreLeft request status before after → CheckEnds request status before after
  Unread : ListsDoNotRead request status before after → CheckEnds request status before after
  Early : IsOutOfMemory status before after → CheckEnds request status before after
