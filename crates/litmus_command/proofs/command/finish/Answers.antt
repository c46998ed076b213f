-- what was done says what its status is, and so does a failure that was told
use Rattle.std.proofs.Common.{ℕ, Result, subst, sym}
use Rattle.litmus_command.proofs.CarryLemmas.{carried_failure, carried_well}
use Rattle.litmus_command.proofs.command.finish.Goals as goal
use Rattle.file_commands.specs.Desks.{DeskState}
use Rattle.file_commands.specs.Statuses.{status_of}
use Rattle.litmus_command.specs.Ends.{CommandEnds, IsCarriedOut}
use Rattle.file_commands.specs.declared.failure.Failure.{Failure}

pub returns-in-Ok : goal.returns-in-Ok
returns-in-Ok g c = λ request before plain ends.
    let at : DeskState = g.D.Desk.state c.args.desk.now in
    carried_well request c.in-Ok.status before at plain
    (subst (λ (done : Result ℕ Failure). CommandEnds request done before at) c.in-Ok.is ends)

pub returns-in-Err : goal.returns-in-Err
returns-in-Err g c = λ request before plain ends.
    let seen = g.D.Desk.state in
    let at : DeskState = seen c.args.desk.now in
    let after : DeskState = seen c.fail-status.new.desk in
    let failure = c.in-Err.failure in
    subst (λ (status : ℕ). IsCarriedOut request status before after) (sym c.fail-status.ensures.status)
    (subst (λ (desk : DeskState). IsCarriedOut request (status_of failure) before desk) (sym c.fail-status.ensures.whole)
    (carried_failure request failure before at plain
    (subst (λ (done : Result ℕ Failure). CommandEnds request done before at) c.in-Err.is ends)))
