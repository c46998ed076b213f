-- what was found of the file
use Rattle.std.proofs.Common.{◌≡◌, ◌∙◌, ℕ, List, Err, Option, ap, append-nil, inl, inr, refl, subst, sym}
use Rattle.diagnostics.specs.check_output.Diagnosis.{Gave, Lost}
use Rattle.file_commands.proofs.CheckLemmas.{lost_and_told, on_err, read_and_told, same_but_reads}
use Rattle.file_commands.specs.Check.{IsLeftOver, IsToldOf, IsToldOfLost}
use Rattle.file_commands.specs.Desks.{DeskState, once_told}
use Rattle.file_commands.specs.StandardError.{heard}
use Rattle.report_text.specs.Sink.{CountsFailure}
use Rattle.file_commands.specs.Files as events
use Rattle.file_commands.specs.declared.complaint.Complaint.{Complaint}
use Rattle.litmus_parse.specs.Text.{file_bytes}
use Rattle.diagnostics.specs.text_check.Check.{IsCheckOf}
use Rattle.file_commands.proofs.check.check_file.Goals as goal

pub returns-in_err-complaint-in-Err-CannotRead-clause-over : goal.returns-in_err-complaint-in-Err-CannotRead-clause-over
returns-in_err-complaint-in-Err-CannotRead-clause-over g c =
    let seen = g.D.Desk.state in
    let reads = c.in-Err-CannotRead.ensures in
    on_err (IsLeftOver c.args.files.several (seen c.args.desk.now) (seen c.read_file.new.self))
    c.from_residual-in_err-complaint-in-Err-CannotRead.result (record {
      files = inl reads.refused;
      faults = inr (c.in_err-complaint-in-Err-CannotRead.ensures.several, reads.failed (ap Err c.in-Err-CannotRead.field-0-is));
      rest = same_but_reads (seen c.args.desk.now) (seen c.read_file.new.self) reads.written reads.failures reads.told;
    })

pub returns-in_ok-print_file-in-Ok-clause-found : goal.returns-in_ok-print_file-in-Ok-clause-found
returns-in_ok-print_file-in-Ok-clause-found g c =
    let seen = g.D.Desk.state in
    let before = seen c.args.desk.now in
    let middle = seen c.read_file.new.self in
    let after = seen c.tell_file.new.desk in
    let reads = c.in-Ok.ensures in
    let files = c.args.files in
    let name = c.args.name.now in
    let text = c.in-Ok.text.items in
    let settings = c.args.settings.now in
    let check = c.in_ok-comes-in-Ok.ensures.0 in
    let is_check : IsCheckOf name text settings check =
    subst (λ (t : List ℕ). IsCheckOf name t settings check) c.deref.ensures.value c.in_ok-comes-in-Ok.ensures.1 in
    let made = c.in_ok-comes-in-Ok.ensures.2 in (
      Gave name text check,
      refl,
      is_check,
      c.tell_file.ensures.ends files settings name text check made is_check,
      c.in_ok-print_file-in-Ok.ensures files name text check made,
      (
        read_and_told before middle after (events.Gave name file_bytes text) c.tell_file.ensures.rest reads.written reads.failures reads.gave
            (reads.works (λ h. absurd (cc))),
        subst (λ (t : Option (List Complaint)). IsToldOf files (Gave name text check) t after.told) reads.told
            (c.tell_file.ensures.told files name text check made),
      ),
    )

pub returns-in_ok-complaint-in-Err-CannotRead-clause-found : goal.returns-in_ok-complaint-in-Err-CannotRead-clause-found
returns-in_ok-complaint-in-Err-CannotRead-clause-found g c =
    let seen = g.D.Desk.state in
    let before = seen c.args.desk.now in
    let middle = seen c.read_file.new.self in
    let after = seen c.tell.new.desk in
    let reads = c.in-Err-CannotRead.ensures in
    let said = c.in_ok-complaint-in-Err-CannotRead.ensures in
    let complaint = c.in_ok-complaint-in-Err-CannotRead.complaint in
    let told : after ≡ once_told complaint middle = c.tell.ensures.told in
    let several = c.args.files.several in
    let name = c.args.name.now in
    let is_told : after.told ≡ heard before.told complaint =
    ap (λ (at : DeskState). at.told) told ∙ ap (λ (t : Option (List Complaint)). heard t complaint) reads.told in (
      Lost name,
      refl,
      tt,
      (refl, c.tell.ensures.status ∙ said.status),
      sym (append-nil c.args.output.now.items),
      (
        lost_and_told before middle after complaint told reads.written reads.failures reads.refused,
        (
          subst (λ n. CountsFailure before.faults n) (sym (ap (λ (at : DeskState). at.faults) told))
              (reads.failed (ap Err c.in-Err-CannotRead.field-0-is)),
          subst (λ (t : Option (List Complaint)). IsToldOfLost several name before.told t) (sym is_told) (said.told before.told),
        ),
      ),
    )
