-- What holds of the text of a search holds of what is kept of it.
use Rattle.std.proofs.Common.{◌≡◌, ◌↔◌, ℕ, Bool, Err, IfErr, IfOk, List, None, Ok, Result, ap, sym, subst}
use Rattle.std.specs.Prelude.{IsErrOf, option_map}
use Rattle.prepared_program.specs.declared.program_sites.settings.Settings.{Settings}
use Rattle.run_output.specs.declared.error.EngineError.{EngineError}
use Rattle.search_all.specs.Texts.{AllIsSearched}
use Rattle.search_formats.specs.Files.{IsTextFound, kept, wanted_of_all, wanted_within}
use Rattle.search_formats.specs.declared.wanted.FileSearched.{FileSearched}
use Rattle.search_formats.specs.declared.wanted.FileWanted.{FileWanted}
use Rattle.search_formats.specs.declared.wanted.Preemptions.TheVariants as preemptions
use Rattle.search_output.specs.declared.text.SearchText.{SearchText}
use Rattle.search_run.specs.Texts.{TextIsSearched}

pub kept_refused : (P : EngineError → Type 0) (found : Result SearchText EngineError) (result : Result FileSearched EngineError)
    → result ≡ kept found → IfErr found P → IfErr result P
kept_refused P (Ok found) result is holds = subst (λ (r : Result FileSearched EngineError). IfErr r P) (sym is) holds
kept_refused P (Err error) result is holds = subst (λ (r : Result FileSearched EngineError). IfErr r P) (sym is) holds

to_found : (error : EngineError) (found : Result SearchText EngineError) → IsErrOf (kept found) error → IsErrOf found error
to_found error (Ok found) is = cc
to_found error (Err own) is = cc

of_found : (error : EngineError) (found : Result SearchText EngineError) → IsErrOf found error → IsErrOf (kept found) error
of_found error (Ok found) is = cc
of_found error (Err own) is = cc

pub kept_err : (error : EngineError) (Q : Type 0) (found : Result SearchText EngineError) (result : Result FileSearched EngineError)
    → result ≡ kept found → (IsErrOf found error ↔ Q) → (IsErrOf result error ↔ Q)
kept_err error Q found result is holds =
    subst (λ (r : Result FileSearched EngineError). IsErrOf r error ↔ Q) (sym is)
    ((λ of. holds.0 (to_found error found of)), (λ q. of_found error found (holds.1 q)))

-- no trace is wanted, so there is none
pub kept_within : (text : List ℕ) (settings : Settings) (wanted : FileWanted) (switches : ℕ) (found : Result SearchText EngineError)
    (result : Result FileSearched EngineError) → result ≡ kept found
    → IfOk found (λ searched. TextIsSearched text settings (wanted_within wanted switches) searched.written.raced searched.stopped
    searched.written.output.items (option_map (λ trace. trace.items) searched.written.trace))
    → IfOk result (λ file. IsTextFound (preemptions.AtMost switches) text settings wanted file.raced file.stopped file.output.items)
kept_within text settings wanted switches (Err error) result is holds =
    subst (λ (r : Result FileSearched EngineError). IfOk r (λ file. IsTextFound (preemptions.AtMost switches) text settings wanted
    file.raced file.stopped file.output.items)) (sym is) tt
kept_within text settings wanted switches (Ok found) result is holds =
    subst (λ (r : Result FileSearched EngineError). IfOk r (λ file. IsTextFound (preemptions.AtMost switches) text settings wanted
    file.raced file.stopped file.output.items)) (sym is)
    (subst (TextIsSearched text settings (wanted_within wanted switches) found.written.raced found.stopped found.written.output.items)
    holds.is.trace_is holds)

pub kept_of_all : (text : List ℕ) (settings : Settings) (wanted : FileWanted) (found : Result SearchText EngineError)
    (result : Result FileSearched EngineError) → result ≡ kept found
    → IfOk found (λ searched. AllIsSearched text settings (wanted_of_all wanted) searched.written.raced searched.stopped
    searched.written.output.items (option_map (λ trace. trace.items) searched.written.trace))
    → IfOk result (λ file. IsTextFound preemptions.Any text settings wanted file.raced file.stopped file.output.items)
kept_of_all text settings wanted (Err error) result is holds =
    subst (λ (r : Result FileSearched EngineError). IfOk r (λ file. IsTextFound preemptions.Any text settings wanted
    file.raced file.stopped file.output.items)) (sym is) tt
kept_of_all text settings wanted (Ok found) result is holds =
    subst (λ (r : Result FileSearched EngineError). IfOk r (λ file. IsTextFound preemptions.Any text settings wanted
    file.raced file.stopped file.output.items)) (sym is)
    (subst (AllIsSearched text settings (wanted_of_all wanted) found.written.raced found.stopped found.written.output.items)
    holds.is.trace_is holds)
