-- The trace of the first list with a report, of lists and of later ones.
use Rattle.std.proofs.Common.{◌≡◌, ◌∙◌, ◌++◌, ℕ, Bool, List, None, Option, Some, Global, Vec, ap, false, refl, subst, sym, true}
use Rattle.std.specs.Option.{option_map, option_or}
use Rattle.executions.specs.execution.Run.{Run}
use Rattle.prepared_program.specs.declared.program_sites.settings.Settings.{Settings}
use Rattle.search_output.proofs.TraceLemmas.{first_of_more, or_else}
use Rattle.search_output.specs.Lists.{OneList}
use Rattle.search_output.specs.Traces.{IsFirstTrace, IsTraceIfSome, first_reported}

either : (settings : Settings) {run : Run} (found last : Option (OneList run)) (trace later : Option (List ℕ))
    → IsTraceIfSome settings found trace → IsTraceIfSome settings last later → IsTraceIfSome settings (or_else found last) (option_or trace later)
either settings None last trace later first second = subst (λ t. IsTraceIfSome settings last (option_or t later)) (sym first) second
either settings (Some one) last trace later first second = (first.0, ap (λ t. option_or t later) first.1, first.2)

trace_of_both : (settings : Settings) (traced : Bool) {run : Run} (lists more : List (OneList run)) (trace later : Option (List ℕ))
    → IsFirstTrace settings traced lists trace → IsFirstTrace settings traced more later
    → IsFirstTrace settings traced (lists ++ more) (option_or trace later)
trace_of_both settings false lists more trace later first second = ap (λ t. option_or t later) first ∙ second
trace_of_both settings true lists more trace later first second =
    subst (λ found. IsTraceIfSome settings found (option_or trace later)) (sym (first_of_more lists more))
    (either settings (first_reported lists) (first_reported more) trace later first second)

-- the bytes of a trace
abbrev bytes_of : Option (Vec ℕ Global) → Option (List ℕ)
bytes_of trace = option_map (λ bytes. bytes.items) trace

bytes_of_both : (trace later : Option (Vec ℕ Global)) → option_or (bytes_of trace) (bytes_of later) ≡ bytes_of (option_or trace later)
bytes_of_both None later = refl
bytes_of_both (Some bytes) later = refl

pub trace_joined : (settings : Settings) (traced : Bool) {run : Run} (lists more : List (OneList run)) (trace later : Option (Vec ℕ Global))
    → IsFirstTrace settings traced lists (option_map (λ bytes. bytes.items) trace)
    → IsFirstTrace settings traced more (option_map (λ bytes. bytes.items) later)
    → IsFirstTrace settings traced (lists ++ more) (option_map (λ bytes. bytes.items) (option_or trace later))
trace_joined settings traced lists more trace later first second =
    subst (IsFirstTrace settings traced (lists ++ more)) (bytes_of_both trace later)
    (trace_of_both settings traced lists more (bytes_of trace) (bytes_of later) first second)
