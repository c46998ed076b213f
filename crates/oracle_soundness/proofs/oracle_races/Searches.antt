-- Searches over the accesses that begin in a history, over its places, and over executions.
use Rattle.std.proofs.Common.{◌≡◌, ◌<◌, ◌≤◌, ◌+◌, ◌∙◌, ℕ, Any, Contains, List, ap, arith, drop, get_or, inl, inr, length, slice_index_or, subst, sym, take}
use Rattle.std.proofs.lemmas.Bool.{cases_lt}
use Rattle.std.proofs.lemmas.List.{get_or_default, take-append-drop}
use Rattle.std.proofs.lemmas.List.Elements.{Contains-append_left}
use Rattle.access_types.specs.Access.{Access}
use Rattle.access_types.specs.History.{History, InProgress, beginning}
use Rattle.access_types.specs.declared.history.Happening.TheVariants.{Begin}
use Rattle.access_types.specs.declared.history.Moment.{Moment}
use Rattle.oracle_soundness.specs.declared.oracle_races.facts.Fact.{Fact}
use Rattle.oracle_soundness.specs.declared.oracle_races.facts.Fact.TheVariants as shown
use Rattle.oracle_soundness.specs.oracle_races.Searched.{Holds}
use Rattle.oracle_soundness.specs.oracle_races.Shown.{IsAt, SomeAt}
use Rattle.races.specs.declared.pair.SiteName.{SiteName}

-- the moment begins no such access at the site
abbrev pub BeginsNone : SiteName → (Access → Type 0) → Moment → Type 0
BeginsNone at Such moment = (a : Access) → moment.happening ≡ Begin a → IsAt at a → ¬ Such a

-- what was asked of the first so many elements, and of the next, holds of one more
module _ {X : Type 0} (P : X → Type 0) (xs : List X) where
  abbrev pub AllBefore : ℕ → Type 0
  AllBefore n = (k : ℕ) (d : X) → k < n → P (slice_index_or xs k d)

  pub one_more : (n : ℕ) (x : X) → x ≡ get_or xs n x → n < length xs → AllBefore n → P x → AllBefore (n + 1)
  one_more n x is within before here = λ k d below. elim (cases_lt k n) [
    | inl low ↦ before k d low
    | inr high ↦
        let same : k ≡ n = omega (arith, below) in
        let is_x : slice_index_or xs k d ≡ x = ap (λ (i : ℕ). slice_index_or xs i d) same ∙ (get_or_default xs n d x within ∙ sym is) in
        subst P (sym is_x) here
  ]

-- an access that is in progress has begun
pub has_begun : (history : History) (a : Access) (k : ℕ) → InProgress history a k → Contains history (beginning a)
has_begun history a k goes =
    subst (λ (h : History). Contains h (beginning a)) (take-append-drop k history)
    (Contains-append_left (take k history) (drop k history) (beginning a) goes.begun)

-- where no moment begins such an access, and each such one begins, there is none
pub none_at : (history : History) (at : SiteName) (Such : Access → Type 0) (n : ℕ) → length history ≤ n
    → AllBefore (BeginsNone at Such) history n → ((a : Access) → Such a → Contains history (beginning a)) → ¬ SomeAt at Such
none_at history at Such n all none begins some =
    let begun = begins some.access some.such in
    none begun.0 (beginning some.access) (omega (arith, all, begun.1)) some.access
    (ap (λ (m : Moment). m.happening) begun.2) some.is some.such

-- where none of the elements is such, none is
pub none_of : {X : Type 0} (P : X → Type 0) (xs : List X) (n : ℕ) → length xs ≤ n → AllBefore (λ x. ¬ P x) xs n → ¬ Any P xs
none_of P xs n all none some =
    none some.0 some.1 (omega (arith, all, some.2)) (subst P (sym some.3) some.4)

module _ (history : History) (a b : Access) where
  both_begun : (k : ℕ) → InProgress history a k → InProgress history b k
      → Contains history (beginning a) × Contains history (beginning b)
  both_begun k a_goes b_goes = (has_begun history a k a_goes, has_begun history b k b_goes)

  -- whatever two accesses are in an execution, they have begun in it
  pub have_begun : (fact : Fact) → Holds fact history a b → Contains history (beginning a) × Contains history (beginning b)
  have_begun shown.AtOnce so = both_begun so.moment so.first_goes so.second_goes
  have_begun (shown.BothMarked atomic) so = both_begun so.at_once.moment so.at_once.first_goes so.at_once.second_goes
  have_begun shown.OneSilenced so = both_begun so.at_once.moment so.at_once.first_goes so.at_once.second_goes
  have_begun (shown.TrueRace atomic) so = both_begun so.moment so.first_goes so.second_goes
  have_begun (shown.Race atomic a_never b_never) so = both_begun so.race.moment so.race.first_goes so.race.second_goes
