-- Why a race is missed, by tests of each reason.
use Rattle.std.proofs.Common.{◌≡◌, ◌↔◌, ◌&&◌, ◌∙◌, Bool, IsTrue, false, not, sym, true}
use Rattle.std.proofs.lemmas.Bool.{and_from, and_parts}
use Rattle.oracle_soundness.proofs.oracle_races.MaskLemmas.{says_no}
use Rattle.races.specs.Verdicts as verdicts
use Rattle.races.specs.Verdicts.{AreMissedReasons, Facts, HasReason}

-- what `&&` makes of two tests, the second of which may be left out
pub and_then : (first second both : Bool) → first ≡ true → both ≡ second → both ≡ (first && second)
and_then true second both is both_is = both_is
and_then false second both is both_is = absurd (let bad : false ≡ true = is in cc)

pub and_else : (first second both : Bool) → first ≡ false → both ≡ first → both ≡ (first && second)
and_else true second both is both_is = absurd (let bad : true ≡ false = is in cc)
and_else false second both is both_is = both_is

module _ {facts : Facts} {same_value masked origin none taken armed : Bool} (is_same : IsTrue same_value ↔ facts.SameValue)
    (is_masked : IsTrue masked ↔ facts.Masked) (is_origin : IsTrue origin ↔ facts.Origin)
    (is_none : IsTrue none ↔ ((¬ IsTrue same_value) × (¬ IsTrue masked) × (¬ IsTrue origin)))
    (is_taken : IsTrue taken ↔ facts.Taken) (is_armed : IsTrue armed ↔ facts.Armed) where
  none_told : IsTrue none → ¬ HasReason facts
  none_told said has = elim has [
    | verdicts.same_value fact ↦ (is_none.0 said).0 (is_same.1 fact)
    | verdicts.masked fact ↦ (is_none.0 said).1 (is_masked.1 fact)
    | verdicts.origin fact ↦ (is_none.0 said).2 (is_origin.1 fact)
  ]

  none_is : ¬ HasReason facts → IsTrue none
  none_is never = is_none.1 (
    λ told. never (verdicts.same_value (is_same.0 told)),
    λ told. never (verdicts.masked (is_masked.0 told)),
    λ told. never (verdicts.origin (is_origin.0 told)),
  )

  pub are_reasons : (never_taken never_armed : Bool) → never_taken ≡ ((none && not taken) && armed) → never_armed ≡ (none && not armed)
      → AreMissedReasons facts (record {
        same_value = same_value;
        masked = masked;
        origin = origin;
        never_taken = never_taken;
        never_armed = never_armed;
      })
  are_reasons never_taken never_armed is_never_taken is_never_armed = record {
    same_value = is_same;
    masked = is_masked;
    origin = is_origin;
    never_taken = (
      (λ said.
          let all = and_parts (none && not taken) armed (sym is_never_taken ∙ said) in
          let both = and_parts none (not taken) all.0 in
          (none_told both.0, (says_no is_taken).0 both.1, is_armed.0 all.1)),
      (λ never. is_never_taken ∙ and_from (none && not taken) armed
          (and_from none (not taken) (none_is never.0) ((says_no is_taken).1 never.1)) (is_armed.1 never.2)),
    );
    never_armed = (
      (λ said.
          let both = and_parts none (not armed) (sym is_never_armed ∙ said) in
          (none_told both.0, (says_no is_armed).0 both.1)),
      (λ never. is_never_armed ∙ and_from none (not armed) (none_is never.0) ((says_no is_armed).1 never.1)),
    );
  }
