-- what is found is found as it was asked
use Rattle.std.proofs.Common.{◌≡◌, ℕ, Bool, IfOk, List, Option, Result, subst, sym}
use Rattle.std.specs.Option.{option_map}
use Rattle.cli.specs.declared.request.SearchRequest.{SearchRequest}
use Rattle.cli.specs.declared.request.Switches.{Switches}
use Rattle.cli.specs.declared.request.Switches.TheVariants as switches
use Rattle.litmus_command.proofs.search.search_for.Goals as goal
use Rattle.litmus_command.specs.Command.{IsSearchedFor}
use Rattle.prepared_program.specs.declared.program_sites.settings.Settings.{Settings}
use Rattle.run_output.specs.declared.error.EngineError.{EngineError}
use Rattle.search_all.specs.Texts.{AllIsSearched}
use Rattle.search_all.specs.declared.wanted.AllWanted.{AllWanted}
use Rattle.search_run.specs.Texts.{TextIsSearched}
use Rattle.search_output.specs.declared.text.SearchText.{SearchText}
use Rattle.search_run.specs.declared.wanted.Wanted.{Wanted}

-- what is found in a search holds this
abbrev Finds : (Found : (raced stopped : Bool) (output : List ℕ) (trace : Option (List ℕ)) → Type 0) → Result SearchText EngineError → Type 0
Finds Found result = IfOk result (λ found. Found found.written.raced found.stopped found.written.output.items
    (option_map (λ trace. trace.items) found.written.trace))

as_asked : (request : SearchRequest) (text : List ℕ) (settings : Settings) (result : Result SearchText EngineError) (asked : Switches)
    → request.switches ≡ asked → Finds (IsSearchedFor request asked text settings) result
    → Finds (IsSearchedFor request request.switches text settings) result
as_asked request text settings result asked is found =
    subst (λ (s : Switches). Finds (IsSearchedFor request s text settings) result) (sym is) found

pub returns-in-AtMost-clause-searched : goal.returns-in-AtMost-clause-searched
returns-in-AtMost-clause-searched g c =
    let request = c.args.request.now in
    let text = c.args.text.now in
    let settings = c.args.settings.now in
    as_asked request text settings c.search_text.result (switches.AtMost c.in-AtMost.most) c.in-AtMost.is
    (subst (λ (w : Wanted). Finds (TextIsSearched text settings w) c.search_text.result) c.wanted_for-wanted.ensures c.search_text.ensures.searched)

pub returns-in-All-clause-searched : goal.returns-in-All-clause-searched
returns-in-All-clause-searched g c =
    let request = c.args.request.now in
    let text = c.args.text.now in
    let settings = c.args.settings.now in
    as_asked request text settings c.search_all.result switches.All c.in-All.is
    (subst (λ (w : AllWanted). Finds (AllIsSearched text settings w) c.search_all.result) c.all_wanted_for.ensures c.search_all.ensures.searched)
