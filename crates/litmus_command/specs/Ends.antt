-- How a command ends, and what its status says.
use Rattle.std.specs.Prelude.{◌≡◌, ◌≢◌, ◌⊎◌, ℕ, List, Err, Ok, Result, false, true}
use Rattle.cli.specs.declared.request.Request.{Request}
use Rattle.file_commands.specs.Desks.{DeskState}
use Rattle.file_commands.specs.Statuses.{status_of}
use Rattle.litmus_command.specs.Command.{AreFilesSearched, AreJoined, AreRaced, DoesRead, EndsFor, IsChecked, IsCut, IsDone, IsMisused, IsOfFile, IsOfSeveral, IsRefusedOf, IsStopped}
use Rattle.litmus_command.specs.Command.{IsToldApart, IsToldWith, NothingIsWrittenFor, Reads, OutputState, state_in}
use Rattle.litmus_command.specs.Overwrite.{IsKept, Overwrites}
use Rattle.file_commands.specs.declared.failure.Failure.{Failure}
use Rattle.report_text.specs.Sink.{CountsFailure}

-- what is asked was done, with this status: with a report, without one, or as a search that was stopped
-- with none so far
abbrev pub IsDoneWith : Request → (status : ℕ) → OutputState → OutputState → Type 0
IsDoneWith request status before after =
    ((status ≡ 2) × IsDone request true before after) ⊎ ((status ≡ 0) × IsDone request false before after)
    ⊎ ((status ≡ 75) × IsStopped request before after)

-- so it was, no read failed, and standard error was told nothing
pub record Succeeds (request : Request) (status : ℕ) (before after : DeskState) : Type 0 where
  pub done : IsDoneWith request status (state_in before) (state_in after)
  pub faults : after.faults ≡ before.faults
  pub told : after.told ≡ before.told

-- what is asked failed, with this status, and standard error was told nothing so far
pub record Fails (request : Request) (status : ℕ) (before after : DeskState) : Type 0 where
  pub silent : status ≢ 74 → NothingIsWrittenFor request (state_in before) (state_in after)
  pub failed : status ≡ 74 → CountsFailure before.failures after.failures
  pub cut : status ≡ 74 → IsCut request (state_in before) (state_in after)
  pub refused : IsOfFile status → IsRefusedOf request status (state_in before) (state_in after)
  pub misused : status ≡ 64 → IsMisused request (state_in before) (state_in after)
  pub unread : status ≡ 66 → DoesRead request
  pub reads : Reads status before.faults after.faults
  pub told : after.told ≡ before.told

-- a command ends so: it is done, or it fails
abbrev pub CommandEnds : Request → Result ℕ Failure → DeskState → DeskState → Type 0
CommandEnds request (Ok status) before after = Succeeds request status before after
CommandEnds request (Err failure) before after = Fails request (status_of failure) before after

-- what is asked is no check, is not of the races or the search of files, joins no parts, and nothing would be overwritten
pub record IsNoCheck (request : Request) : Type 0 where
  pub checks : (status : ℕ) (before after : DeskState) → IsChecked request status before after
  pub races : (status : ℕ) (before after : DeskState) → AreRaced request status before after
  pub searches : (status : ℕ) (before after : DeskState) → AreFilesSearched request status before after
  pub joins : (status : ℕ) (before after : DeskState) → AreJoined request status before after
  pub keeps : (path : List ℕ) → Overwrites request path → ⊥

-- What is asked was carried out, and this is the status: what it says of what was written and of the files, what
-- standard error was told, and whether a read failed.
pub record IsCarriedOut (request : Request) (status : ℕ) (before after : DeskState) : Type 0 where
  pub reported : status ≡ 2 → IsDone request true (state_in before) (state_in after)
  pub unreported : status ≡ 0 → IsDone request false (state_in before) (state_in after)
  pub stopped : status ≡ 75 → IsStopped request (state_in before) (state_in after)
  pub unwritten : status ≡ 74 → IsCut request (state_in before) (state_in after)
  pub refused : IsOfFile status → IsRefusedOf request status (state_in before) (state_in after)
  pub misused : status ≡ 64 → IsMisused request (state_in before) (state_in after)
  pub unread : status ≡ 66 → DoesRead request
  pub checks : IsChecked request status before after
  pub races : AreRaced request status before after
  pub searches : AreFilesSearched request status before after
  pub joins : AreJoined request status before after
  pub keeps : (path : List ℕ) → Overwrites request path → IsKept path status before after
  pub reads : IsOfSeveral request ⊎ Reads status before.faults after.faults
  pub tells : IsToldApart request ⊎ IsToldWith request status before.told after.told
  pub ends : IsOfSeveral request ⊎ EndsFor request status (state_in before) (state_in after)
