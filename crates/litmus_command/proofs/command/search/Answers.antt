-- what was asked for was searched, and what is left of that was given
use Rattle.std.proofs.Common.{◌≡◌, ℕ, Bool, Err, List, Ok, Option, ap, arith, refl, subst}
use Rattle.std.specs.Option.{option_map}
use Rattle.cli.specs.declared.request.Request.TheVariants.{Search}
use Rattle.cli.specs.declared.request.SearchRequest.{SearchRequest}
use Rattle.litmus_command.proofs.AdditionsLemmas.{added_to, kept}
use Rattle.litmus_command.proofs.CommandLemmas.{ends_given, err_ends, fails_early, fails_of_file, fails_unread, found_with, is_read_so}
use Rattle.litmus_command.proofs.ResultLemmas.{engine_no_read, spells_none_searched, writes_no_sink}
use Rattle.litmus_command.proofs.command.search.Goals as goal
use Rattle.file_commands.specs.Desks.{DeskState}
use Rattle.file_commands.specs.Failures.{read_failure}
use Rattle.file_commands.specs.Statuses.{status_of}
use Rattle.litmus_command.specs.Command.{IsFound, IsSearchedFor, state_in, trace_path}
use Rattle.file_commands.specs.declared.failure.Failure.TheVariants.{Engine, OutOfMemory}
use Rattle.file_commands.specs.declared.desk.ReadFault.TheVariants as fault
use Rattle.litmus_parse.specs.Text.{file_bytes}
use Rattle.litmus_syntax.specs.declared.error.ParseError.TheVariants as parse
use Rattle.run_output.specs.declared.error.EngineError.TheVariants.{Text}
use Rattle.prepared_program.specs.declared.program_sites.settings.Settings.{Settings}
use Rattle.search_output.specs.Texts.{IsRefused}

-- what is found in what was read is found in this text
found_in : (request : SearchRequest) (settings : Settings) (raced stopped : Bool) (output : List ℕ) (trace : Option (List ℕ)) (read text : List ℕ)
    → read ≡ text → IsSearchedFor request request.switches read settings raced stopped output trace
    → IsSearchedFor request request.switches text settings raced stopped output trace
found_in request settings raced stopped output trace read text is_text found =
    subst (λ (t : List ℕ). IsSearchedFor request request.switches t settings raced stopped output trace) is_text found

pub returns-in_err-settings : goal.returns-in_err-settings
returns-in_err-settings g c =
    err_ends (Search c.args.request.now) _ _ c.from_residual.result c.in_err-settings.field-0.0 c.from_residual.ensures.1
    (fails_early (Search c.args.request.now) _ _ c.in_err-settings.ensures.early c.in_err-settings.ensures.misused)

pub returns-in_err-text : goal.returns-in_err-text
returns-in_err-text g c =
    err_ends (Search c.args.request.now) _ _ c.from_residual-in_err-text.result (read_failure c.in_err-text.field-0.0) c.from_residual-in_err-text.ensures.1
    (fails_unread (Search c.args.request.now) c.in_err-text.field-0.0 _ _ (c.in_ok-settings.settings, c.in_ok-settings.ensures.asks) c.read_file.ensures.written c.in_err-text.ensures.refused
    c.read_file.ensures.told c.in_err-text.ensures.failed c.in_err-text.ensures.works)

pub returns-in_err-found : goal.returns-in_err-found
returns-in_err-found g c =
    let seen = g.D.Desk.state in
    let request = c.args.request.now in
    let before : DeskState = seen c.args.desk.now in
    let middle : DeskState = seen c.read_file.new.self in
    let error = c.in_err-found.field-0.0 in
    let text = c.in_ok-text.text.items in
    let refused = subst (λ text. IsRefused text c.in_ok-settings.settings error) c.deref.ensures.value c.in_err-found.ensures.refused in
    let read = is_read_so before middle request.file.now file_bytes text c.read_file.ensures.written
    c.read_file.ensures.failures c.in_ok-text.ensures.gave c.read_file.ensures.told
    (c.in_ok-text.ensures.works (λ h. let no : Ok c.in_ok-text.text ≡ Err fault.CannotRead = h in cc)) in
    err_ends (Search request) before middle c.from_residual-in_err-found.result (Engine error) c.from_residual-in_err-found.ensures.1
    (fails_of_file (Search request) before middle request.file.now file_bytes text read (status_of (Engine error))
    (record {
      text = text;
      error = error;
      refused = record { settings = c.in_ok-settings.settings; asks = c.in_ok-settings.ensures.asks; refused = refused };
      status_is = refl;
      spells_none = spells_none_searched text c.in_ok-settings.settings error refused;
      files = c.in_ok-text.ensures.gave;
    })
    (c.in_ok-settings.settings, c.in_ok-settings.ensures.asks) (engine_no_read error) (writes_no_sink error (λ is. subst (IsRefused c.deref.result.now c.in_ok-settings.settings) is c.in_err-found.ensures.refused)))

-- there was no room for what is wanted beside the output
pub returns-in_err-shown : goal.returns-in_err-shown
returns-in_err-shown g c =
    let seen = g.D.Desk.state in
    let request = c.args.request.now in
    let before : DeskState = seen c.args.desk.now in
    let middle : DeskState = seen c.read_file.new.self in
    let text = c.in_ok-text.text.items in
    let read = is_read_so before middle request.file.now file_bytes text c.read_file.ensures.written
    c.read_file.ensures.failures c.in_ok-text.ensures.gave c.read_file.ensures.told
    (c.in_ok-text.ensures.works (λ h. let no : Ok c.in_ok-text.text ≡ Err fault.CannotRead = h in cc)) in
    err_ends (Search request) before middle c.from_residual-in_err-shown.result OutOfMemory c.from_residual-in_err-shown.ensures.1
    (fails_of_file (Search request) before middle request.file.now file_bytes text read 71
    (record {
      text = text;
      error = Text parse.OutOfMemory;
      refused = record { settings = c.in_ok-settings.settings; asks = c.in_ok-settings.ensures.asks; refused = λ program spells. refl };
      status_is = refl;
      spells_none = λ is. absurd (omega (arith, is));
      files = c.in_ok-text.ensures.gave;
    })
    (c.in_ok-settings.settings, c.in_ok-settings.ensures.asks) (λ is. omega (arith, is)) (λ is. omega (arith, is)))

pub returns : goal.returns
returns g c =
    let seen = g.D.Desk.state in
    let request = c.args.request.now in
    let before : DeskState = seen c.args.desk.now in
    let middle : DeskState = seen c.read_file.new.self in
    let after : DeskState = seen c.emit.new.desk in
    let plain = c.in_ok-found.found.written in
    let written = c.in_ok-shown.shown in
    let output = written.output.items in
    let trace = option_map (λ bytes. bytes.items) written.trace in
    let text = c.in_ok-text.text.items in
    let stopped = c.in_ok-found.found.stopped in
    let settings = c.in_ok-settings.settings in
    let left : IsFound request stopped text written.raced output trace = record {
      settings = settings;
      asks = c.in_ok-settings.ensures.asks;
      plain = plain.output.items;
      found = kept (λ raced trace. IsSearchedFor request request.switches text settings raced stopped plain.output.items trace) plain written
          c.in_ok-shown.ensures.raced c.in_ok-shown.ensures.trace
          (found_in request settings plain.raced stopped plain.output.items (option_map (λ bytes. bytes.items) plain.trace) c.deref.result.now
          text c.deref.ensures.value c.in_ok-found.ensures.searched);
      at_terminal = c.is_terminal.result;
      added = added_to request.file.now settings plain.output.items output c.search_additions-wanted.ensures c.deref-2.ensures.value
          c.in_ok-shown.ensures.output;
    } in
    ends_given (Search request) written.raced stopped (trace_path request.options) output trace before middle after request.file.now file_bytes text
    (is_read_so before middle request.file.now file_bytes text c.read_file.ensures.written
    c.read_file.ensures.failures c.in_ok-text.ensures.gave c.read_file.ensures.told
    (c.in_ok-text.ensures.works (λ h. let no : Ok c.in_ok-text.text ≡ Err fault.CannotRead = h in cc)))
    c.emit.ensures.told c.emit.ensures.faults
    (λ given. found_with request written.raced stopped (state_in before) (state_in after)
    (record { text = text; output = output; trace = trace; left = left; given = given }))
    (λ part. (stopped, record { text = text; raced = written.raced; output = output; trace = trace; left = left; given = part }))
    c.emit.result c.emit.ensures.status c.emit.ensures.given c.emit.ensures.failed c.emit.ensures.part

-- there is a failed try at least
pub search_for-requires : goal.search_for-requires
search_for-requires g c =
    let asks = c.in_ok-settings.ensures.asks in
    let same : c.in_ok-settings.settings.turns ≡ c.args.request.now.options.turns = ap (λ (s : Settings). s.turns) asks.settings_are in
    let some = asks.bounds.turns_from in
    omega (arith, same, some)
