-- The trace of the first list with a report, as lists are added.
use Rattle.std.proofs.Common.{◌≡◌, ◌∙◌, ◌==◌, ◌&&◌, ◌++◌, ◌∷◌, [], ℕ, Bool, List, None, Option, Some, ap, false, is_some, length, not, refl, subst, sym, true}
use Rattle.std.proofs.Common.{Global, Vec, if◌then◌else◌}
use Rattle.std.specs.Option.{option_map}
use Rattle.prepared_program.specs.declared.program_sites.settings.Settings.{Settings}
use Rattle.access_types.specs.declared.report.Report.{Report}
use Rattle.run_output.specs.Traces.{IsToBeAccepted, IsTraceOf}
use Rattle.executions.specs.execution.Run.{Run}
use Rattle.executions.specs.execution.Execution.{AllHaveEnded, Execution}
use Rattle.search_output.specs.Lists.{OneList}
use Rattle.search_output.specs.Traces.{IsFirstTrace, IsTraceIfSome, IsTraceOfOne, first_reported}

-- the first of two
abbrev pub or_else : {X : Type 0} → Option X → Option X → Option X
or_else None other = other
or_else (Some x) other = Some x

if_same : {X : Type 0} (b : Bool) (x : X) → (if b then x else x) ≡ x
if_same true x = refl
if_same false x = refl

step_on : {run : Run} (b : Bool) (first : OneList run) (rest last : Option (OneList run)) (both : Option (OneList run)) → both ≡ or_else rest last
    → (if b then both else Some first) ≡ or_else (if b then rest else Some first) last
step_on true first rest last both is = is
step_on false first rest last both is = refl

-- with more lists behind them the first is the same, or else the first of those
pub first_of_more : {run : Run} (lists more : List (OneList run))
    → first_reported (lists ++ more) ≡ or_else (first_reported lists) (first_reported more)
first_of_more [] more = refl
first_of_more (first ∷ later) more =
    step_on (length first.reports == 0) first (first_reported later) (first_reported more) (first_reported (later ++ more))
    (first_of_more later more)

no_some : {X : Type 0} (x : X) → None ≡ Some x → ⊥
no_some x is = cc

alone : {run : Run} (one : OneList run) (b : Bool) → (length one.reports == 0) ≡ b → first_reported (one ∷ []) ≡ (if b then None else Some one)
alone one b is = ap (λ (said : Bool). if said then None else Some one) is

-- where no trace is to be kept the trace is the same
stays : (settings : Settings) {run : Run} (found last : Option (OneList run)) (trace : Option (List ℕ)) (has : Bool)
    → (is_some trace ≡ false → last ≡ None) → IsTraceIfSome settings found trace → IsTraceIfSome settings (or_else found last) trace
stays settings None last trace has none is =
    subst (λ l. IsTraceIfSome settings l trace) (sym (none (ap is_some is))) is
stays settings (Some one) last trace has none is = is

empty_none : {run : Run} (one : OneList run) (b : Bool) → (length one.reports == 0) ≡ b → not b ≡ false → first_reported (one ∷ []) ≡ None
empty_none one true is lacks = alone one true is
empty_none one false is lacks = let bad : true ≡ false = lacks in cc

pub kept_on : (settings : Settings) (traced : Bool) {run : Run} (lists : List (OneList run)) (one : OneList run) (trace : Option (List ℕ)) (some : Bool)
    → some ≡ is_some trace → (traced && not some && not (length one.reports == 0)) ≡ false → IsFirstTrace settings traced lists trace
    → IsFirstTrace settings traced (lists ++ one ∷ []) trace
kept_on settings false lists one trace some same lacks is = is
kept_on settings true lists one trace some same lacks is =
    subst (λ found. IsTraceIfSome settings found trace) (sym (first_of_more lists (one ∷ [])))
    (stays settings (first_reported lists) (first_reported (one ∷ [])) trace some
    (λ none. empty_none one (length one.reports == 0) refl
    (subst (λ (b : Bool). (not b && not (length one.reports == 0)) ≡ false) (same ∙ none) lacks)) is)

-- where one is, it is that of the last list
begins : (settings : Settings) {run : Run} (found : Option (OneList run)) (one : OneList run) (trace : Option (List ℕ)) (bytes : List ℕ)
    → is_some trace ≡ false → IsTraceIfSome settings found trace → IsTraceOfOne settings one bytes
    → IsTraceIfSome settings (or_else found (Some one)) (Some bytes)
begins settings None one trace bytes none is traces = (bytes, refl, traces)
begins settings (Some first) one trace bytes none is traces =
    let bad : true ≡ false = ap is_some (sym is.1) ∙ none in absurd (let no : ⊥ = cc in no)

and_left : (one other : Bool) → (one && other) ≡ true → one ≡ true
and_left true other is = refl
and_left false other is = is

and_right : (one other : Bool) → (one && other) ≡ true → other ≡ true
and_right true other is = is
and_right false other is = let bad : false ≡ true = is in cc

not_true : (b : Bool) → not b ≡ true → b ≡ false
not_true true is = let bad : false ≡ true = is in cc
not_true false is = refl

pub kept_first : (settings : Settings) (traced : Bool) {run : Run} (lists : List (OneList run)) (one : OneList run) (trace : Option (List ℕ))
    (some : Bool) (bytes : List ℕ) → some ≡ is_some trace → (traced && not some && not (length one.reports == 0)) ≡ true
    → IsFirstTrace settings traced lists trace → IsTraceOfOne settings one bytes
    → IsFirstTrace settings traced (lists ++ one ∷ []) (Some bytes)
kept_first settings false lists one trace some bytes same lacks is traces = let bad : false ≡ true = lacks in cc
kept_first settings true lists one trace some bytes same lacks is traces =
    let left = and_left (not some) (not (length one.reports == 0)) lacks in
    let right = and_right (not some) (not (length one.reports == 0)) lacks in
    subst (λ found. IsTraceIfSome settings found (Some bytes))
    (sym (first_of_more lists (one ∷ []) ∙ ap (or_else (first_reported lists)) (alone one false (not_true (length one.reports == 0) right))))
    (begins settings (first_reported lists) one trace bytes (sym same ∙ not_true some left) is traces)

-- there is a list where there is a Vec
pub some_of : (trace : Option (Vec ℕ Global)) → is_some trace ≡ is_some (option_map (λ bytes. bytes.items) trace)
some_of None = refl
some_of (Some bytes) = refl

-- the trace of a list that is this one
pub traced_as : (settings : Settings) {run : Run} (one : OneList run) (list : Execution run one.records) (reports : List Report) (bytes : List ℕ)
    → one.list ≡ list → one.reports ≡ reports → IsTraceOf settings list reports bytes → (AllHaveEnded run one.records → IsToBeAccepted bytes)
    → IsTraceOfOne settings one bytes
traced_as settings {run} one list reports bytes same_list same_reports written accepted = record {
  written = subst (λ l. IsTraceOf settings l one.reports bytes) (sym same_list)
      (subst (λ r. IsTraceOf settings list r bytes) (sym same_reports) written);
  accepted = accepted;
}
