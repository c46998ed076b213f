-- What is so of a desk once a page was written, or couldn't be.
use Rattle.std.proofs.Common.{◌≡◌, ◌∙◌, ℕ, List, Option, ap, subst, sym, true}
use Rattle.file_commands.proofs.CheckLemmas.{nothing_left}
use Rattle.file_commands.specs.Desks.{DeskState, once_told}
use Rattle.file_commands.specs.FileWork.{Asked}
use Rattle.file_commands.specs.Files.{FileEvent}
use Rattle.file_commands.specs.declared.complaint.Complaint.{Complaint}
use Rattle.file_commands.specs.declared.complaint.Complaint.TheVariants as complaints
use Rattle.file_commands.specs.declared.failure.Failure.TheVariants as failure
use Rattle.page_command.specs.Ends.{WriteFails}
use Rattle.page_command.specs.Looks.{AreLeft, AreLooked}
use Rattle.page_command.specs.declared.looks.AllLooked.{AllLooked}
use Rattle.prepared_program.specs.declared.program_sites.settings.Settings.{Settings}
use Rattle.race_output.specs.declared.file.Format.{Format}
use Rattle.report_text.specs.Sink.{CountsFailure}

-- a desk by what it has taken and was told
abbrev desk_of : (written : Option (List ℕ)) (failures : ℕ) (files : Option (List FileEvent)) (told : Option (List Complaint)) (faults : ℕ) → DeskState
desk_of written failures files told faults =
    record { written = written; failures = failures; files = files; told = told; faults = faults }

-- a desk on which one file was written
pub same_but_files : (before after : DeskState) (files : Option (List FileEvent)) → after.written ≡ before.written
    → after.failures ≡ before.failures → after.files ≡ files → after.told ≡ before.told → after.faults ≡ before.faults
    → after ≡ record before { files = files }
same_but_files before after files written failures own told faults =
    ap (λ w. desk_of w after.failures after.files after.told after.faults) written
    ∙ (ap (λ n. desk_of before.written n after.files after.told after.faults) failures
    ∙ (ap (λ f. desk_of before.written before.failures f after.told after.faults) own
    ∙ (ap (λ t. desk_of before.written before.failures files t after.faults) told
    ∙ ap (λ n. desk_of before.written before.failures files before.told n) faults)))

-- that a file couldn't be written was told, and nothing else was done
pub write_failed : (before middle after : DeskState) (status : ℕ) → status ≡ 74
    → after ≡ once_told (complaints.Failure failure.CannotWrite) middle → middle.written ≡ before.written → middle.files ≡ before.files
    → middle.told ≡ before.told → middle.faults ≡ before.faults → CountsFailure before.failures middle.failures
    → WriteFails status before after
write_failed before middle after status is told written files old faults failed =
    let count : after.failures ≡ middle.failures = ap (λ (at : DeskState). at.failures) told in
    let same : middle ≡ record before { failures = middle.failures } =
    ap (λ w. desk_of w middle.failures middle.files middle.told middle.faults) written
    ∙ (ap (λ f. desk_of before.written middle.failures f middle.told middle.faults) files
    ∙ (ap (λ t. desk_of before.written middle.failures before.files t middle.faults) old
    ∙ ap (λ n. desk_of before.written middle.failures before.files before.told n) faults)) in
    record {
      ends_is = is;
      failed = subst (λ n. CountsFailure before.failures n) (sym count) failed;
      told = told ∙ (ap (λ (at : DeskState). once_told (complaints.Failure failure.CannotWrite) at) same
          ∙ ap (λ n. record (once_told (complaints.Failure failure.CannotWrite) before) { failures = n }) (sym count));
    }

-- memory ran out once all files were looked into
pub all_left : (asked : Asked) (format : Format) (settings : Settings) (all : AllLooked) (before middle : DeskState)
    → AreLooked asked format settings all before middle → AreLeft asked before middle
all_left asked format settings all before middle looked = record {
  founds = looked.searched.founds;
  middle = middle;
  looks = looked.searched.looks;
  over = nothing_left true middle;
}
