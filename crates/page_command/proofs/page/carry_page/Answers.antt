-- the settings are those that are asked for, or the places don't read, or memory ran out
use Rattle.std.proofs.Common.{◌∙◌, ℕ, ap, inl, inr}
use Rattle.file_commands.specs.Desks.{DeskState, once_told}
use Rattle.file_commands.specs.Statuses.{complaint_status_of}
use Rattle.file_commands.specs.declared.complaint.Complaint.TheVariants as complaints
use Rattle.file_commands.specs.declared.failure.Failure.{Failure}
use Rattle.page_command.specs.Ends.{Early, Misplaced}
use Rattle.page_command.proofs.page.carry_page.Goals as goal

pub returns-in-Err : goal.returns-in-Err
returns-in-Err g c =
    let before : DeskState = g.D.Desk.state c.args.desk.now in
    let told : Failure → DeskState = λ error. once_told (complaints.Failure error) before in
    let status : Failure → ℕ = λ error. complaint_status_of (complaints.Failure error) in
    elim c.in-Err.ensures.known [
      | inl place ↦ Misplaced (record {
        unread = place.1;
        status_is = c.tell.ensures.status ∙ ap status place.0;
        told = c.tell.ensures.told ∙ ap told place.0;
      })
      | inr out ↦ Early (record { status_is = c.tell.ensures.status ∙ ap status out; told = c.tell.ensures.told ∙ ap told out })
    ]
