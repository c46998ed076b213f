-- what is said of a trace that is accepted was written
use Rattle.std.proofs.Common.{◌≡◌, ◌∙◌, ℕ, Err, List, Ok, Option, ap, inl, inr, refl, subst}
use Rattle.cli.specs.declared.request.Request.TheVariants.{Replay}
use Rattle.litmus_command.proofs.CommandLemmas.{err_ends, fails_of_file, fails_to_write, fails_unread, is_read_so}
use Rattle.litmus_command.proofs.ResultLemmas.{replays_no_read, replays_no_sink}
use Rattle.litmus_command.proofs.command.replay.Goals as goal
use Rattle.file_commands.specs.Desks.{DeskState}
use Rattle.file_commands.specs.Failures.{read_failure}
use Rattle.file_commands.specs.Statuses.{status_of}
use Rattle.file_commands.specs.declared.failure.Failure.TheVariants.{Trace}
use Rattle.file_commands.specs.declared.desk.ReadFault.TheVariants as fault
use Rattle.litmus_command.specs.Replay.{IsLineOf}
use Rattle.report_text.specs.Faults.{size_limit}
use Rattle.report_text.specs.Sink.{CountsFailure, HoldsBeginning, appended}
use Rattle.trace_replay.specs.Answer.{IsRefused}

pub returns-in_err-bytes : goal.returns-in_err-bytes
returns-in_err-bytes g c =
    err_ends (Replay c.args.request.now) _ _ c.from_residual.result (read_failure c.in_err-bytes.field-0.0) c.from_residual.ensures.1
    (fails_unread (Replay c.args.request.now) c.in_err-bytes.field-0.0 _ _ tt c.read_file.ensures.written c.in_err-bytes.ensures.refused
    c.read_file.ensures.told c.in_err-bytes.ensures.failed c.in_err-bytes.ensures.works)

pub returns-in_err-line : goal.returns-in_err-line
returns-in_err-line g c =
    let seen = g.D.Desk.state in
    let request = c.args.request.now in
    let before : DeskState = seen c.args.desk.now in
    let middle : DeskState = seen c.read_file.new.self in
    let error = c.in_err-line.field-0.0 in
    let text = c.in_ok-bytes.bytes.items in
    let read = is_read_so before middle request.trace.now size_limit text c.read_file.ensures.written
    c.read_file.ensures.failures c.in_ok-bytes.ensures.gave c.read_file.ensures.told
    (c.in_ok-bytes.ensures.works (λ h. let no : Ok c.in_ok-bytes.bytes ≡ Err fault.CannotRead = h in cc)) in
    err_ends (Replay request) before middle c.from_residual-in_err-line.result (Trace error) c.from_residual-in_err-line.ensures.1
    (fails_of_file (Replay request) before middle request.trace.now size_limit text read (status_of (Trace error))
    (record {
      bytes = text;
      error = error;
      refused = subst (λ (b : List ℕ). IsRefused b error) c.deref.ensures.value c.in_err-line.ensures.refused;
      status_is = refl;
      files = c.in_ok-bytes.ensures.gave;
    })
    tt (replays_no_read error) (replays_no_sink error))

-- what is said of the trace, as it is printed
pub returns-in-Ok : goal.returns-in-Ok
returns-in-Ok g c =
    let before = (g.D.Desk.state c.args.desk.now).written in
    let works = c.in_ok-bytes.ensures.works (λ h. let no : Ok c.in_ok-bytes.bytes ≡ Err fault.CannotRead = h in cc) in
    record {
      done = inr (inl (
        refl,
        record {
          bytes = c.in_ok-bytes.bytes.items;
          line = c.in_ok-line.line.items;
          said = record {
            accepted = subst (λ (b : List ℕ). IsLineOf b c.in_ok-line.line.items) c.deref.ensures.value c.in_ok-line.ensures.accepted;
            files = c.print.ensures.files ∙ c.in_ok-bytes.ensures.gave;
          };
          written = c.in-Ok.ensures.writes.holds
              ∙ (ap (λ (taken : Option (List ℕ)). appended taken c.deref-2.result.now) c.read_file.ensures.written
              ∙ ap (λ (text : List ℕ). appended before text) c.deref-2.ensures.value);
        },
      ));
      faults = c.print.ensures.faults ∙ works;
      told = c.print.ensures.told ∙ c.read_file.ensures.told;
    }

pub returns : goal.returns
returns g c =
    let works = c.in_ok-bytes.ensures.works (λ h. let no : Ok c.in_ok-bytes.bytes ≡ Err fault.CannotRead = h in cc) in
    let begun : HoldsBeginning c.in_ok-line.line.items (g.D.Desk.state c.args.desk.now).written (g.D.Desk.state c.print.new.self).written =
    subst (λ (text : List ℕ). HoldsBeginning text (g.D.Desk.state c.args.desk.now).written (g.D.Desk.state c.print.new.self).written) c.deref-2.ensures.value
    (subst (λ (taken : Option (List ℕ)). HoldsBeginning c.deref-2.result.now taken (g.D.Desk.state c.print.new.self).written) c.read_file.ensures.written
    c.in-Err.ensures.writes.begun) in
    fails_to_write (Replay c.args.request.now) _ _
    (subst (λ (n : ℕ). CountsFailure n (g.D.Desk.state c.print.new.self).failures) c.read_file.ensures.failures c.in-Err.ensures.writes.counted)
    (record {
      bytes = c.in_ok-bytes.bytes.items;
      line = c.in_ok-line.line.items;
      said = record {
        accepted = subst (λ (b : List ℕ). IsLineOf b c.in_ok-line.line.items) c.deref.ensures.value c.in_ok-line.ensures.accepted;
        files = c.print.ensures.files ∙ c.in_ok-bytes.ensures.gave;
      };
      begun = begun;
    })
    (c.print.ensures.faults ∙ works) (c.print.ensures.told ∙ c.read_file.ensures.told)
