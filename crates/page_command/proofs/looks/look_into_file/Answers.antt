-- a file that can't be read was told
use Rattle.std.proofs.Common.{[], Err, List, Option, ap, refl, subst, sym}
use Rattle.diagnostics.specs.check_output.Diagnosis.{Lost}
use Rattle.file_commands.proofs.CheckLemmas.{lost_and_told}
use Rattle.file_commands.specs.Check.{IsToldOf}
use Rattle.file_commands.specs.Desks.{DeskState}
use Rattle.file_commands.specs.FileWork.{IsLostOf, PassedOver, files_of}
use Rattle.file_commands.specs.FilesAsked.{asked_by}
use Rattle.file_commands.specs.declared.complaint.Complaint.{Complaint}
use Rattle.page_command.proofs.LookLemmas.{both_ok}
use Rattle.page_command.specs.Looks.{IsLooked}
use Rattle.page_command.specs.Told.{IsRefusedTold}
use Rattle.report_text.specs.Sink.{CountsFailure}
use Rattle.search_formats.specs.declared.refusal.Refusal.TheVariants as refusals
use Rattle.page_command.proofs.looks.look_into_file.Goals as goal

pub returns-in-Err-CannotRead-clause-looked : goal.returns-in-Err-CannotRead-clause-looked
returns-in-Err-CannotRead-clause-looked g c =
    let seen = g.D.Desk.state in
    let asked = asked_by c.args.asked.now in
    let name = c.args.name.now in
    let before : DeskState = seen c.args.desk.now in
    let middle : DeskState = seen c.read_file.new.self in
    let after : DeskState = seen c.look_at_lost.new.desk in
    let reads = c.in-Err-CannotRead.ensures in
    both_ok c.look_at_lost.result (λ looked. IsLostOf asked name looked.said middle after)
    (λ looked. IsRefusedTold name [] refusals.CannotRead looked.told)
    (λ looked. IsLooked asked c.args.work.format c.args.settings.now name looked before after) (λ looked is told. record {
      said = record {
        found = PassedOver (Lost name);
        file_is = refl;
        is_found = (tt, refl);
        said_is = record { text_is = is.text_is; verdict_is = is.verdict_is; status_is = is.status_is };
        looked_into = (
          tt,
          (
            lost_and_told before middle after is.complaint is.told reads.written reads.failures reads.refused,
            (
              subst (λ n. CountsFailure before.faults n) (sym (ap (λ (at : DeskState). at.faults) is.told))
                  (reads.failed (ap Err c.in-Err-CannotRead.field-0-is)),
              subst (λ (t : Option (List Complaint)). IsToldOf (files_of asked) (Lost name) t after.told) reads.told is.is_told,
            ),
          ),
        );
      };
      told = told;
    }) c.look_at_lost.ensures.lost c.look_at_lost.ensures.told
