-- what was asked for was run, and what is left of it was given
use Rattle.std.proofs.Common.{◌≡◌, ◌∙◌, Err, Ok, ap, arith, false, is_some, refl, rules, subst}
use Rattle.std.specs.Option.{option_map}
use Rattle.cli.specs.declared.request.Request.TheVariants.{Step}
use Rattle.litmus_command.proofs.AdditionsLemmas.{added_to, kept}
use Rattle.litmus_command.proofs.CommandLemmas.{done_with, ends_given, err_ends, fails_early, fails_of_file, fails_unread, is_read_so}
use Rattle.litmus_command.proofs.ResultLemmas.{engine_no_read, some_items, spells_none, writes_no_sink}
use Rattle.litmus_command.proofs.command.step.Goals as goal
use Rattle.file_commands.specs.Desks.{DeskState}
use Rattle.file_commands.specs.Failures.{read_failure}
use Rattle.file_commands.specs.Statuses.{status_of}
use Rattle.litmus_command.specs.Command.{IsLeft, state_in, trace_path}
use Rattle.litmus_command.specs.Engine.{IsRefused, TextLeaves}
use Rattle.file_commands.specs.declared.failure.Failure.TheVariants.{Engine, OutOfMemory}
use Rattle.file_commands.specs.declared.desk.ReadFault.TheVariants as fault
use Rattle.litmus_parse.specs.Text.{file_bytes}
use Rattle.litmus_syntax.specs.declared.error.ParseError.TheVariants as parse
use Rattle.run_output.specs.declared.error.EngineError.TheVariants.{Text}
use Rattle.prepared_program.specs.step_schedule.Schedule.{entries_of}

pub returns-in_err-settings : goal.returns-in_err-settings
returns-in_err-settings g c =
    err_ends (Step c.args.request.now) _ _ c.from_residual.result c.in_err-settings.field-0.0 c.from_residual.ensures.1
    (fails_early (Step c.args.request.now) _ _ c.in_err-settings.ensures.early c.in_err-settings.ensures.misused)

pub returns-in_err-text : goal.returns-in_err-text
returns-in_err-text g c =
    err_ends (Step c.args.request.now) _ _ c.from_residual-in_err-text.result (read_failure c.in_err-text.field-0.0) c.from_residual-in_err-text.ensures.1
    (fails_unread (Step c.args.request.now) c.in_err-text.field-0.0 _ _ (c.in_ok-settings.settings, entries_of c.in_ok-settings.schedule, c.in_ok-settings.ensures.asks) c.read_file.ensures.written c.in_err-text.ensures.refused
    c.read_file.ensures.told c.in_err-text.ensures.failed c.in_err-text.ensures.works)

pub returns-in_err-written : goal.returns-in_err-written
returns-in_err-written g c =
    let seen = g.D.Desk.state in
    let request = c.args.request.now in
    let before : DeskState = seen c.args.desk.now in
    let middle : DeskState = seen c.read_file.new.self in
    let error = c.in_err-written.field-0.0 in
    let text = c.in_ok-text.text.items in
    let refused = subst (λ text. IsRefused text c.in_ok-settings.settings (entries_of c.in_ok-settings.schedule) error) c.deref.ensures.value
    c.in_err-written.ensures.refused in
    let read = is_read_so before middle request.file.now file_bytes text c.read_file.ensures.written
    c.read_file.ensures.failures c.in_ok-text.ensures.gave c.read_file.ensures.told
    (c.in_ok-text.ensures.works (λ h. let no : Ok c.in_ok-text.text ≡ Err fault.CannotRead = h in cc)) in
    err_ends (Step request) before middle c.from_residual-in_err-written.result (Engine error) c.from_residual-in_err-written.ensures.1
    (fails_of_file (Step request) before middle request.file.now file_bytes text read (status_of (Engine error))
    (record {
      text = text;
      error = error;
      refused = record {
        settings = c.in_ok-settings.settings;
        entries = entries_of c.in_ok-settings.schedule;
        asks = c.in_ok-settings.ensures.asks;
        refused = refused;
      };
      status_is = refl;
      spells_none = spells_none text c.in_ok-settings.settings (entries_of c.in_ok-settings.schedule) error refused;
      files = c.in_ok-text.ensures.gave;
    })
    (c.in_ok-settings.settings, entries_of c.in_ok-settings.schedule, c.in_ok-settings.ensures.asks) (engine_no_read error) (writes_no_sink error (λ is. c.in_err-written.ensures.unwritten (ap Err is))))

-- there was no room for what is wanted beside the output
pub returns-in_err-shown : goal.returns-in_err-shown
returns-in_err-shown g c =
    let seen = g.D.Desk.state in
    let request = c.args.request.now in
    let before : DeskState = seen c.args.desk.now in
    let middle : DeskState = seen c.read_file.new.self in
    let text = c.in_ok-text.text.items in
    let read = is_read_so before middle request.file.now file_bytes text c.read_file.ensures.written
    c.read_file.ensures.failures c.in_ok-text.ensures.gave c.read_file.ensures.told
    (c.in_ok-text.ensures.works (λ h. let no : Ok c.in_ok-text.text ≡ Err fault.CannotRead = h in cc)) in
    err_ends (Step request) before middle c.from_residual-in_err-shown.result OutOfMemory c.from_residual-in_err-shown.ensures.1
    (fails_of_file (Step request) before middle request.file.now file_bytes text read 71
    (record {
      text = text;
      error = Text parse.OutOfMemory;
      refused = record { settings = c.in_ok-settings.settings; entries = entries_of c.in_ok-settings.schedule; asks = c.in_ok-settings.ensures.asks; refused = λ program spells. refl };
      status_is = refl;
      spells_none = λ is. absurd (omega (arith, is));
      files = c.in_ok-text.ensures.gave;
    })
    (c.in_ok-settings.settings, entries_of c.in_ok-settings.schedule, c.in_ok-settings.ensures.asks) (λ is. omega (arith, is)) (λ is. omega (arith, is)))

pub returns : goal.returns
returns g c =
    let seen = g.D.Desk.state in
    let request = c.args.request.now in
    let before : DeskState = seen c.args.desk.now in
    let middle : DeskState = seen c.read_file.new.self in
    let after : DeskState = seen c.emit.new.desk in
    let plain = c.in_ok-written.written in
    let written = c.in_ok-shown.shown in
    let output = written.output.items in
    let trace = option_map (λ bytes. bytes.items) written.trace in
    let text = c.in_ok-text.text.items in
    let settings = c.in_ok-settings.settings in
    let entries = entries_of c.in_ok-settings.schedule in
    let wanted : c.is_some-traced.result ≡ is_some request.options.trace = search rules in
    let left : IsLeft request text written.raced output trace = record {
      settings = settings;
      entries = entries;
      asks = c.in_ok-settings.ensures.asks;
      plain = plain.output.items;
      leaves = kept (λ raced trace. TextLeaves request.options.unknown_origin text settings entries raced plain.output.items trace) plain written
          c.in_ok-shown.ensures.raced c.in_ok-shown.ensures.trace
          (subst (λ text. TextLeaves request.options.unknown_origin text settings entries plain.raced plain.output.items (option_map (λ bytes. bytes.items) plain.trace))
          c.deref.ensures.value c.in_ok-written.ensures.leaves);
      added = added_to request.file.now settings plain.output.items output c.run_additions-wanted.ensures c.deref-2.ensures.value
          c.in_ok-shown.ensures.output;
      traced = ap is_some (ap (option_map (λ bytes. bytes.items)) c.in_ok-shown.ensures.trace)
          ∙ (some_items plain.trace ∙ (c.in_ok-written.ensures.traced ∙ wanted));
    } in
    ends_given (Step request) written.raced false (trace_path request.options) output trace before middle after request.file.now file_bytes text
    (is_read_so before middle request.file.now file_bytes text c.read_file.ensures.written
    c.read_file.ensures.failures c.in_ok-text.ensures.gave c.read_file.ensures.told
    (c.in_ok-text.ensures.works (λ h. let no : Ok c.in_ok-text.text ≡ Err fault.CannotRead = h in cc)))
    c.emit.ensures.told c.emit.ensures.faults
    (λ given. done_with (Step request) written.raced (state_in before) (state_in after)
    (record { text = text; output = output; trace = trace; left = left; given = given }))
    (λ part. record { text = text; raced = written.raced; output = output; trace = trace; left = left; given = part })
    c.emit.result c.emit.ensures.status c.emit.ensures.given c.emit.ensures.failed c.emit.ensures.part
