-- What is wanted beside an output changes nothing else of what is left.
use Rattle.std.proofs.Common.{◌≡◌, ℕ, Bool, List, Option, ap, subst, sym}
use Rattle.std.specs.Option.{option_map}
use Rattle.file_search.specs.Additions.{HasAdditions}
use Rattle.file_search.specs.declared.additions.Additions.{Additions}
use Rattle.prepared_program.specs.declared.program_sites.settings.Settings.{Settings}
use Rattle.run_output.specs.declared.written.Written.{Written}

-- what holds of whether there was a report, and of the trace, still does
pub kept : (P : Bool → Option (List ℕ) → Type 0) (plain written : Written) → written.raced ≡ plain.raced → written.trace ≡ plain.trace
    → P plain.raced (option_map (λ bytes. bytes.items) plain.trace) → P written.raced (option_map (λ bytes. bytes.items) written.trace)
kept P plain written raced trace holds =
    subst (λ (is : Bool). P is (option_map (λ bytes. bytes.items) written.trace)) (sym raced)
    (subst (λ (bytes : Option (List ℕ)). P plain.raced bytes) (sym (ap (option_map (λ bytes. bytes.items)) trace)) holds)

-- what was added is what is wanted, of the text that was read
pub added_to : {given wanted : Additions} {read text : List ℕ} (file : List ℕ) (settings : Settings) (plain output : List ℕ)
    → given ≡ wanted → read ≡ text → HasAdditions given file read settings plain output → HasAdditions wanted file text settings plain output
added_to {given} {wanted} {read} {text} file settings plain output is_wanted is_text added =
    subst (λ (t : List ℕ). HasAdditions wanted file t settings plain output) is_text
    (subst (λ (w : Additions). HasAdditions w file read settings plain output) is_wanted added)
