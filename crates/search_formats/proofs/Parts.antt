-- What holds of the text of a part holds of what is kept of it.
use Rattle.std.proofs.Common.{◌≡◌, ◌↔◌, ℕ, Bool, Err, IfErr, IfOk, List, Ok, Result, false, true, sym, subst}
use Rattle.std.specs.Prelude.{IsErrOf}
use Rattle.part_search.specs.Parted.{IsPartText}
use Rattle.part_search.specs.declared.parted.PartSearched.{PartSearched}
use Rattle.prepared_program.specs.declared.program_sites.settings.Settings.{Settings}
use Rattle.run_output.specs.declared.error.EngineError.{EngineError}
use Rattle.search_formats.specs.Files.{IsPartFound, IsPartIf, IsWritten, is_part, part_kept, wanted_within}
use Rattle.search_formats.specs.declared.wanted.FileSearched.{FileSearched}
use Rattle.search_formats.specs.declared.wanted.FileWanted.{FileWanted}
use Rattle.search_formats.specs.declared.wanted.Preemptions.{Preemptions}
use Rattle.search_formats.specs.declared.wanted.Preemptions.TheVariants as preemptions

-- what comes of a file is so if a part is there or not
abbrev pub IsFileIf : (there : Bool) → Preemptions → (part parts : ℕ) → (name text : List ℕ) → Settings → FileWanted → Result FileSearched EngineError
    → Type 0
IsFileIf there most part parts name text settings wanted result =
    IfOk result (λ file. IsPartIf there most part parts name text settings wanted file.raced file.stopped file.output.items)

-- where there is no such part, all is searched
pub whole_found : (part parts : ℕ) (name text : List ℕ) (settings : Settings) (wanted : FileWanted) (result : Result FileSearched EngineError)
    → is_part part parts ≡ false → IfOk result (λ file. IsWritten name text settings wanted file.raced file.stopped file.output.items)
    → IfOk result (λ file. IsPartFound part parts name text settings wanted file.raced file.stopped file.output.items)
whole_found part parts name text settings wanted result none is =
    subst (λ (there : Bool). IsFileIf there wanted.preemptions part parts name text settings wanted result) (sym none) is

-- where any number of preemptions is wanted, too
pub any_found : (part parts : ℕ) (name text : List ℕ) (settings : Settings) (wanted : FileWanted) (result : Result FileSearched EngineError)
    → is_part part parts ≡ true → wanted.preemptions ≡ preemptions.Any
    → IfOk result (λ file. IsWritten name text settings wanted file.raced file.stopped file.output.items)
    → IfOk result (λ file. IsPartFound part parts name text settings wanted file.raced file.stopped file.output.items)
any_found part parts name text settings wanted result there any is =
    subst (λ (there : Bool). IsFileIf there wanted.preemptions part parts name text settings wanted result) (sym there)
    (subst (λ (most : Preemptions). IsFileIf true most part parts name text settings wanted result) (sym any) is)

kept_text : (part parts switches : ℕ) (name text : List ℕ) (settings : Settings) (wanted : FileWanted) (found : Result PartSearched EngineError)
    → IfOk found (λ searched. IsPartText name text settings (wanted_within wanted switches) part parts searched.raced searched.stopped
    searched.output.items) → IsFileIf true (preemptions.AtMost switches) part parts name text settings wanted (part_kept found)
kept_text part parts switches name text settings wanted (Ok found) is = is
kept_text part parts switches name text settings wanted (Err error) is = tt

-- else a part is
pub part_found : (part parts switches : ℕ) (name text : List ℕ) (settings : Settings) (wanted : FileWanted) (found : Result PartSearched EngineError)
    (result : Result FileSearched EngineError) → is_part part parts ≡ true → wanted.preemptions ≡ preemptions.AtMost switches
    → result ≡ part_kept found
    → IfOk found (λ searched. IsPartText name text settings (wanted_within wanted switches) part parts searched.raced searched.stopped
    searched.output.items)
    → IfOk result (λ file. IsPartFound part parts name text settings wanted file.raced file.stopped file.output.items)
part_found part parts switches name text settings wanted found result there most kept is =
    subst (λ (there : Bool). IsFileIf there wanted.preemptions part parts name text settings wanted result) (sym there)
    (subst (λ (most : Preemptions). IsFileIf true most part parts name text settings wanted result) (sym most)
    (subst (IsFileIf true (preemptions.AtMost switches) part parts name text settings wanted) (sym kept)
    (kept_text part parts switches name text settings wanted found is)))

pub part_refused : (P : EngineError → Type 0) (found : Result PartSearched EngineError) (result : Result FileSearched EngineError)
    → result ≡ part_kept found → IfErr found P → IfErr result P
part_refused P (Ok found) result is holds = subst (λ (r : Result FileSearched EngineError). IfErr r P) (sym is) holds
part_refused P (Err error) result is holds = subst (λ (r : Result FileSearched EngineError). IfErr r P) (sym is) holds

to_found : (error : EngineError) (found : Result PartSearched EngineError) → IsErrOf (part_kept found) error → IsErrOf found error
to_found error (Ok found) is = cc
to_found error (Err own) is = cc

of_found : (error : EngineError) (found : Result PartSearched EngineError) → IsErrOf found error → IsErrOf (part_kept found) error
of_found error (Ok found) is = cc
of_found error (Err own) is = cc

pub part_err : (error : EngineError) (Q : Type 0) (found : Result PartSearched EngineError) (result : Result FileSearched EngineError)
    → result ≡ part_kept found → (IsErrOf found error ↔ Q) → (IsErrOf result error ↔ Q)
part_err error Q found result is holds =
    subst (λ (r : Result FileSearched EngineError). IsErrOf r error ↔ Q) (sym is)
    ((λ of. holds.0 (to_found error found of)), (λ q. of_found error found (holds.1 q)))
