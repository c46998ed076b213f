-- How `join` ends.
use Rattle.std.specs.Prelude.{◌≡◌, ◌⊎◌, ◌||◌, ℕ, Bool, List, Some, length, slice_get, string_bytes, true}
use Rattle.cli.specs.declared.request.JoinRequest.{JoinRequest}
use Rattle.file_commands.specs.Check.{IsOutOfMemory, IsPrinted}
use Rattle.file_commands.specs.Desks.{DeskState, once_told}
use Rattle.file_commands.specs.FileWork.{verdict_status_of}
use Rattle.file_commands.specs.Statuses.{complaint_status_of}
use Rattle.file_commands.specs.declared.check.Checked.{Checked}
use Rattle.file_commands.specs.declared.complaint.Complaint.{Complaint}
use Rattle.file_commands.specs.declared.complaint.Complaint.TheVariants as complaints
use Rattle.file_commands.specs.declared.failure.Failure.TheVariants as failure
use Rattle.file_search.specs.Additions.{HasAdditions}
use Rattle.file_search.specs.Work.{search_verdict_of}
use Rattle.file_search.specs.declared.additions.Additions.{Additions}
use Rattle.join_command.specs.Joined.{HaveNoText, IsJoinedText, IsSettingsOf}
use Rattle.join_command.specs.Reads.{AreLeft, AreRead, StopsReading}
use Rattle.join_command.specs.Told.{AreNoWhole}
use Rattle.join_command.specs.declared.joining.Source.{Source}
use Rattle.part_search.specs.part_file.Wholes.{AreWhole}
use Rattle.part_search.specs.declared.part_file.part.Part.{Part}
use Rattle.prepared_program.specs.declared.program_sites.settings.Settings.{Settings}
use Rattle.run_output.specs.declared.error.EngineError.{EngineError}
use Rattle.search_output.specs.declared.text.SearchText.{SearchText}

-- what is printed beside what was found, where standard output is a terminal or not: as of a search
abbrev pub additions_of : JoinRequest → (at_terminal : Bool) → Additions
additions_of request at_terminal = record {
  places = request.located;
  deadlocks = true;
  settings = request.settings || at_terminal;
}

-- this is the litmus file that a part is of, with its text, and what the search went by
pub record IsSourceOf (part : Part) (source : Source) : Type 0 where
  pub name_is : string_bytes source.name ≡ string_bytes part.file
  pub text_is : source.text.items ≡ part.text.items
  pub settings_are : IsSettingsOf part source.settings

-- this is printed of a search of that file, of which this is left, with this status
pub record IsPrintedOf (additions : Additions) (source : Source) (found : SearchText) (checked : Checked) : Type 0 where
  pub added : HasAdditions additions (string_bytes source.name) source.text.items source.settings found.written.output.items checked.output.items
  pub status_is : checked.status ≡ verdict_status_of (search_verdict_of found.written.raced found.stopped)

-- The parts are a whole search, and this is printed of it, with this status: what they give when they are joined, and
-- what is wanted beside it.
pub record IsFoundIn (request : JoinRequest) (parts : List Part) (output : List ℕ) (status : ℕ) : Type 0 where
  pub whole : AreWhole parts
  pub raced : Bool
  pub stopped : Bool
  pub plain : List ℕ
  pub joined : IsJoinedText parts raced stopped plain
  pub first : Part
  pub begins : slice_get parts 0 ≡ Some first
  pub settings : Settings
  pub settings_are : IsSettingsOf first settings
  pub at_terminal : Bool
  pub added : HasAdditions (additions_of request at_terminal) (string_bytes first.file) first.text.items settings plain output
  pub status_is : status ≡ verdict_status_of (search_verdict_of raced stopped)

-- the parts are a whole search, of which there is no output: it is to be told why
pub record HaveNoOutput (parts : List Part) (said : Complaint) : Type 0 where
  pub whole : AreWhole parts
  pub error : EngineError
  pub refused : HaveNoText parts error
  pub said_is : said ≡ complaints.Failure (failure.Engine error)

-- the parts are no whole search, or have no output
abbrev pub AreRefused : JoinRequest → List Part → Complaint → Type 0
AreRefused request parts said = AreNoWhole request.files.items parts said ⊎ HaveNoOutput parts said

-- all files were read, and have these parts
pub record AllAreRead (request : JoinRequest) (parts : List Part) (before after : DeskState) : Type 0 where
  pub all : length parts ≡ length request.files.items
  pub read : AreRead request.files.items parts before after

-- the parts of all files were joined, and what is printed of them was printed, as far as standard output took it
pub record PartsAreJoined (request : JoinRequest) (status : ℕ) (before after : DeskState) : Type 0 where
  pub parts : List Part
  pub middle : DeskState
  pub read : AllAreRead request parts before middle
  pub output : List ℕ
  pub own : ℕ
  pub found : IsFoundIn request parts output own
  pub printed : IsPrinted output own status middle after

-- this was told, with its status
pub record IsTold (said : Complaint) (status : ℕ) (before after : DeskState) : Type 0 where
  pub status_is : status ≡ complaint_status_of said
  pub told : after ≡ once_told said before

-- the parts of all files are no whole search, or have no output: that was told, with its status, and nothing was printed
pub record PartsAreRefused (request : JoinRequest) (status : ℕ) (before after : DeskState) : Type 0 where
  pub parts : List Part
  pub middle : DeskState
  pub read : AllAreRead request parts before middle
  pub said : Complaint
  pub refused : AreRefused request parts said
  pub told : IsTold said status middle after

-- a file has no part: that was told, with its status, no file behind it was read, and nothing was printed
pub record FileIsRefused (request : JoinRequest) (status : ℕ) (before after : DeskState) : Type 0 where
  pub middle : DeskState
  pub said : Complaint
  pub stops : StopsReading request.files.items said before middle
  pub told : IsTold said status middle after

-- memory ran out, which was told, and nothing was printed
pub record FilesAreLeft (request : JoinRequest) (status : ℕ) (before after : DeskState) : Type 0 where
  pub middle : DeskState
  pub left : AreLeft request.files.items before middle
  pub over : IsOutOfMemory status middle after

-- how `join` ends
pub data JoinEnds (request : JoinRequest) (status : ℕ) (before after : DeskState) : Type 0 where
  Joined : PartsAreJoined request status before after → JoinEnds request status before after
  Refused : PartsAreRefused request status before after → JoinEnds request status before after
  Stopped : FileIsRefused request status before after → JoinEnds request status before after
  Left : FilesAreLeft request status before after → JoinEnds request status before after
