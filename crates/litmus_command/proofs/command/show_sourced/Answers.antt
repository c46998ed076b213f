-- a trace that is accepted was drawn with what its litmus file says of it, and what is left of that was given
use Rattle.std.proofs.Common.{◌≡◌, ◌∙◌, ℕ, Bool, Err, List, Ok, Option, Some, ap, is_some, subst, sym, true}
use Rattle.std.specs.Option.{option_map}
use Rattle.cli.specs.declared.request.Request.TheVariants.{Show}
use Rattle.litmus_command.proofs.CommandLemmas.{err_ends, fails_unread, is_read_so}
use Rattle.litmus_command.proofs.ShowLemmas.{fails_source, is_sourced, not_drawn, read_both, shown_given}
use Rattle.litmus_command.proofs.command.show_sourced.Goals as goal
use Rattle.file_commands.specs.Desks.{DeskState}
use Rattle.file_commands.specs.Failures.{read_failure}
use Rattle.file_commands.specs.declared.failure.Failure.{Failure}
use Rattle.file_commands.specs.declared.desk.ReadFault.TheVariants as fault
use Rattle.litmus_command.specs.Command.{IsShown}
use Rattle.litmus_command.specs.Show.{IsDrawn, IsNotDrawn}
use Rattle.litmus_parse.specs.Text.{file_bytes}
use Rattle.report_text.specs.Faults.{size_limit}

pub returns-in_err-bytes : goal.returns-in_err-bytes
returns-in_err-bytes g c =
    err_ends (Show c.args.request.now) _ _ c.from_residual.result (read_failure c.in_err-bytes.field-0.0) c.from_residual.ensures.1
    (fails_unread (Show c.args.request.now) c.in_err-bytes.field-0.0 _ _ tt c.read_file.ensures.written c.in_err-bytes.ensures.refused
    c.read_file.ensures.told c.in_err-bytes.ensures.failed c.in_err-bytes.ensures.works)

pub returns-in_err-text : goal.returns-in_err-text
returns-in_err-text g c =
    let seen = g.D.Desk.state in
    let request = c.args.request.now in
    let before : DeskState = seen c.args.desk.now in
    let middle : DeskState = seen c.read_file.new.self in
    let after : DeskState = seen c.read_file-2.new.self in
    let bytes = c.in_ok-bytes.bytes.items in
    let first = is_read_so before middle request.trace.now size_limit bytes c.read_file.ensures.written
    c.read_file.ensures.failures c.in_ok-bytes.ensures.gave c.read_file.ensures.told
    (c.in_ok-bytes.ensures.works (λ h. let no : Ok c.in_ok-bytes.bytes ≡ Err fault.CannotRead = h in cc)) in
    err_ends (Show request) before after c.from_residual-in_err-text.result (read_failure c.in_err-text.field-0.0) c.from_residual-in_err-text.ensures.1
    (fails_source request bytes c.in_err-text.field-0.0 before middle after first c.read_file-2.ensures.written c.in_err-text.ensures.refused
    c.read_file-2.ensures.told c.in_err-text.ensures.failed c.in_err-text.ensures.works)

pub returns-in_err-written : goal.returns-in_err-written
returns-in_err-written g c =
    let seen = g.D.Desk.state in
    let request = c.args.request.now in
    let before : DeskState = seen c.args.desk.now in
    let middle : DeskState = seen c.read_file.new.self in
    let after : DeskState = seen c.read_file-2.new.self in
    let why : Failure = c.in_err-written.field-0.0 in
    let bytes = c.in_ok-bytes.bytes.items in
    let text = c.in_ok-text.text.items in
    let path = c.args.path.now in
    let first = is_read_so before middle request.trace.now size_limit bytes c.read_file.ensures.written
    c.read_file.ensures.failures c.in_ok-bytes.ensures.gave c.read_file.ensures.told
    (c.in_ok-bytes.ensures.works (λ h. let no : Ok c.in_ok-bytes.bytes ≡ Err fault.CannotRead = h in cc)) in
    let second = is_read_so middle after path file_bytes text c.read_file-2.ensures.written
    c.read_file-2.ensures.failures c.in_ok-text.ensures.gave c.read_file-2.ensures.told
    (c.in_ok-text.ensures.works (λ h. let no : Ok c.in_ok-text.text ≡ Err fault.CannotRead = h in cc)) in
    let read = read_both request bytes path text before middle after (is_sourced request path c.requires) first second in
    err_ends (Show request) before after c.from_residual-in_err-written.result why c.from_residual-in_err-written.ensures.1
    (not_drawn request bytes (Some (record { path = path; text = text })) (sym c.requires) before after read why
    (subst (λ (t : List ℕ). IsNotDrawn bytes (Some t) why) c.deref-2.ensures.value
    (subst (λ (b : List ℕ). IsNotDrawn b (Some c.deref-2.result.now) why) c.deref.ensures.value c.in_err-written.ensures.undrawn)))

pub returns : goal.returns
returns g c =
    let seen = g.D.Desk.state in
    let request = c.args.request.now in
    let before : DeskState = seen c.args.desk.now in
    let middle : DeskState = seen c.read_file.new.self in
    let after : DeskState = seen c.read_file-2.new.self in
    let last : DeskState = seen c.emit.new.desk in
    let written = c.in_ok-written.written in
    let output = written.output.items in
    let trace = option_map (λ bytes. bytes.items) written.trace in
    let bytes = c.in_ok-bytes.bytes.items in
    let text = c.in_ok-text.text.items in
    let path = c.args.path.now in
    let wanted = c.wanted_of.result in
    let first = is_read_so before middle request.trace.now size_limit bytes c.read_file.ensures.written
    c.read_file.ensures.failures c.in_ok-bytes.ensures.gave c.read_file.ensures.told
    (c.in_ok-bytes.ensures.works (λ h. let no : Ok c.in_ok-bytes.bytes ≡ Err fault.CannotRead = h in cc)) in
    let second = is_read_so middle after path file_bytes text c.read_file-2.ensures.written
    c.read_file-2.ensures.failures c.in_ok-text.ensures.gave c.read_file-2.ensures.told
    (c.in_ok-text.ensures.works (λ h. let no : Ok c.in_ok-text.text ≡ Err fault.CannotRead = h in cc)) in
    let read = read_both request bytes path text before middle after (is_sourced request path c.requires) first second in
    let left : IsShown request (Some text) bytes written.raced output trace = record {
      wanted = wanted;
      ascii = c.wanted_of.ensures.ascii;
      slots = c.wanted_of.ensures.slots;
      svg_too = c.wanted_of.ensures.svg;
      drawn = subst (λ (t : List ℕ). IsDrawn bytes (Some t) wanted output trace) c.deref-2.ensures.value
          (subst (λ (b : List ℕ). IsDrawn b (Some c.deref-2.result.now) wanted output trace) c.deref.ensures.value c.in_ok-written.ensures.drawn);
      unraced = c.in_ok-written.ensures.unraced;
    } in
    shown_given request bytes (Some (record { path = path; text = text })) (sym c.requires) before after read written.raced output trace left last
    c.emit.ensures.told c.emit.ensures.faults
    c.emit.result c.emit.ensures.status c.emit.ensures.given c.emit.ensures.failed c.emit.ensures.part
