-- How `races` ends where a page is wanted too.
use Rattle.std.specs.Prelude.{◌≡◌, ◌⊎◌, ℕ, List, None, Option, Some}
use Rattle.std.specs.Borrow.{Bor}
use Rattle.cli.specs.declared.request.RacesRequest.{RacesRequest}
use Rattle.file_commands.specs.Check.{IsOutOfMemory, IsPrinted}
use Rattle.file_commands.specs.Desks.{DeskState, once_told}
use Rattle.file_commands.specs.FileWork.{Asked, PlacesDoNotRead}
use Rattle.file_commands.specs.Files.{Has, noted}
use Rattle.file_commands.specs.Races.{RacesEnds, asked_of_races, format_of}
use Rattle.file_commands.specs.declared.complaint.Complaint.TheVariants as complaints
use Rattle.file_commands.specs.declared.failure.Failure.TheVariants as failure
use Rattle.page_command.specs.Looks.{AreLeft, AreLooked}
use Rattle.page_command.specs.Told.{IsPageText}
use Rattle.page_command.specs.declared.looks.AllLooked.{AllLooked}
use Rattle.prepared_program.specs.declared.program_sites.settings.Settings.{Settings}
use Rattle.race_output.specs.declared.file.Format.{Format}
use Rattle.report_text.specs.Sink.{CountsFailure}

-- once the file of a path was written, and has these bytes
abbrev pub once_written : (path bytes : List ℕ) → DeskState → DeskState
once_written path bytes before = record before { files = noted before.files (Has path bytes) }

-- the file of the page couldn't be written: that was told, with its status, and nothing was printed
pub record WriteFails (ends : ℕ) (before after : DeskState) : Type 0 where
  pub ends_is : ends ≡ 74
  pub failed : CountsFailure before.failures after.failures
  pub told : after ≡ record (once_told (complaints.Failure failure.CannotWrite) before) { failures = after.failures }

-- the file of this path has these bytes, and then this was printed, as far as standard output took it; or that file
-- couldn't be written
abbrev pub IsWritten : (path bytes output : List ℕ) → (status ends : ℕ) → DeskState → DeskState → Type 0
IsWritten path bytes output status ends before after =
    IsPrinted output status ends (once_written path bytes before) after ⊎ WriteFails ends before after

-- so it is of the page that tells what came of all files, and of what is printed of them
pub record IsPageWritten (settings : Settings) (path : List ℕ) (all : AllLooked) (ends : ℕ) (before after : DeskState) :
    Type 0 where
  pub bytes : List ℕ
  pub page : IsPageText settings all.files.items bytes
  pub written : IsWritten path bytes all.checked.output.items all.checked.status ends before after

-- all files were looked into, and the page of them was written, and what is printed of them was printed
pub record FilesAreTold (asked : Asked) (format : Format) (path : List ℕ) (ends : ℕ) (before after : DeskState) : Type 0 where
  pub settings : Settings
  pub all : AllLooked
  pub middle : DeskState
  pub looked : AreLooked asked format settings all before middle
  pub page : IsPageWritten settings path all ends middle after

-- memory ran out, over a file or over the page: nothing was written or printed
pub record FilesAreLeft (asked : Asked) (status : ℕ) (before after : DeskState) : Type 0 where
  pub middle : DeskState
  pub left : AreLeft asked before middle
  pub over : IsOutOfMemory status middle after

-- how `races` ends that writes a page to the file of this path
pub data PageEnds (asked : Asked) (format : Format) (path : List ℕ) (status : ℕ) (before after : DeskState) : Type 0 where
  Told : FilesAreTold asked format path status before after → PageEnds asked format path status before after
  Left : FilesAreLeft asked status before after → PageEnds asked format path status before after
  Misplaced : PlacesDoNotRead asked status before after → PageEnds asked format path status before after
  Early : IsOutOfMemory status before after → PageEnds asked format path status before after

-- how `races` ends, where a page is to be written to the file of this path, or to none
abbrev pub RacesEndWith : Option (Bor (List ℕ)) → RacesRequest → (status : ℕ) → DeskState → DeskState → Type 0
RacesEndWith None request status before after = RacesEnds request status before after
RacesEndWith (Some path) request status before after =
    PageEnds (asked_of_races request) (format_of request.format) path.now status before after

abbrev pub AllRacesEnd : RacesRequest → (status : ℕ) → DeskState → DeskState → Type 0
AllRacesEnd request status before after = RacesEndWith request.html request status before after
