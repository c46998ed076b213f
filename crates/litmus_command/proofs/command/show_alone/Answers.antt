-- a trace that is accepted was drawn, and what is left of that was given
use Rattle.std.proofs.Common.{◌≡◌, ℕ, Err, List, None, Ok, Option, ap, refl, subst, sym}
use Rattle.std.specs.Option.{option_map}
use Rattle.cli.specs.declared.request.Request.TheVariants.{Show}
use Rattle.litmus_command.proofs.CommandLemmas.{err_ends, fails_unread, is_read_so}
use Rattle.litmus_command.proofs.ShowLemmas.{not_drawn, read_alone, shown_given}
use Rattle.litmus_command.proofs.command.show_alone.Goals as goal
use Rattle.file_commands.specs.Desks.{DeskState}
use Rattle.file_commands.specs.Failures.{read_failure}
use Rattle.litmus_command.specs.Command.{IsAskedSource, IsShown}
use Rattle.litmus_command.specs.Show.{IsDrawn}
use Rattle.file_commands.specs.declared.failure.Failure.TheVariants.{Picture}
use Rattle.file_commands.specs.declared.desk.ReadFault.TheVariants as fault
use Rattle.timeline.specs.picture.Drawn.{IsUndrawn}
use Rattle.report_text.specs.Faults.{size_limit}

pub returns-in_err-bytes : goal.returns-in_err-bytes
returns-in_err-bytes g c =
    err_ends (Show c.args.request.now) _ _ c.from_residual.result (read_failure c.in_err-bytes.field-0.0) c.from_residual.ensures.1
    (fails_unread (Show c.args.request.now) c.in_err-bytes.field-0.0 _ _ tt c.read_file.ensures.written c.in_err-bytes.ensures.refused
    c.read_file.ensures.told c.in_err-bytes.ensures.failed c.in_err-bytes.ensures.works)

pub returns-in_err-written : goal.returns-in_err-written
returns-in_err-written g c =
    let seen = g.D.Desk.state in
    let request = c.args.request.now in
    let before : DeskState = seen c.args.desk.now in
    let middle : DeskState = seen c.read_file.new.self in
    let error = c.in_err-written.field-0.0 in
    let text = c.in_ok-bytes.bytes.items in
    let asked : IsAskedSource request None = sym (ap (λ source. option_map (λ path. path.now) source) c.requires) in
    let read = read_alone request text before middle
    (is_read_so before middle request.trace.now size_limit text c.read_file.ensures.written
    c.read_file.ensures.failures c.in_ok-bytes.ensures.gave c.read_file.ensures.told
    (c.in_ok-bytes.ensures.works (λ h. let no : Ok c.in_ok-bytes.bytes ≡ Err fault.CannotRead = h in cc))) in
    err_ends (Show request) before middle c.from_residual-in_err-written.result (Picture error) c.from_residual-in_err-written.ensures.1
    (not_drawn request text None asked before middle read (Picture error)
    (record {
      error = error;
      failure_is = refl;
      undrawn = subst (λ (b : List ℕ). IsUndrawn b error) c.deref.ensures.value c.in_err-written.ensures.undrawn;
    }))

pub returns : goal.returns
returns g c =
    let seen = g.D.Desk.state in
    let request = c.args.request.now in
    let before : DeskState = seen c.args.desk.now in
    let middle : DeskState = seen c.read_file.new.self in
    let after : DeskState = seen c.emit.new.desk in
    let written = c.in_ok-written.written in
    let output = written.output.items in
    let trace = option_map (λ bytes. bytes.items) written.trace in
    let text = c.in_ok-bytes.bytes.items in
    let wanted = c.wanted_of.result in
    let asked : IsAskedSource request None = sym (ap (λ source. option_map (λ path. path.now) source) c.requires) in
    let read = read_alone request text before middle
    (is_read_so before middle request.trace.now size_limit text c.read_file.ensures.written
    c.read_file.ensures.failures c.in_ok-bytes.ensures.gave c.read_file.ensures.told
    (c.in_ok-bytes.ensures.works (λ h. let no : Ok c.in_ok-bytes.bytes ≡ Err fault.CannotRead = h in cc))) in
    let left : IsShown request None text written.raced output trace = record {
      wanted = wanted;
      ascii = c.wanted_of.ensures.ascii;
      slots = c.wanted_of.ensures.slots;
      svg_too = c.wanted_of.ensures.svg;
      drawn = subst (λ (b : List ℕ). IsDrawn b None wanted output trace) c.deref.ensures.value c.in_ok-written.ensures.drawn;
      unraced = c.in_ok-written.ensures.unraced;
    } in
    shown_given request text None asked before middle read written.raced output trace left after c.emit.ensures.told c.emit.ensures.faults
    c.emit.result c.emit.ensures.status c.emit.ensures.given c.emit.ensures.failed c.emit.ensures.part
