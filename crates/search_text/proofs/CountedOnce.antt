-- Final states that lists have once are counted once.
use Rattle.std.proofs.Common.{◌≡◌, ◌+◌, ◌++◌, ◌∷◌, ◌∙◌, ◌||◌, ℕ, All, List, [], Bool, Option, None, Some, true, false, ap, arith, cond, flat_map, map, refl, sym, if◌then◌else◌}
use Rattle.std.specs.Prelude.{count_by}
use Rattle.std.specs.List.{AllByRecursion, IsDistinct, list_any}
use Rattle.std.proofs.lemmas.Cmp.{nat_list_eq_equiv}
use Rattle.std.proofs.lemmas.List.Elements.{All-map}
use Rattle.std.proofs.lemmas.List.Sums.{sum_by-cons}
use Rattle.std.proofs.lemmas.Map.Keys.{IsDistinct-head, IsDistinct-tail}
use Rattle.std.proofs.lemmas.Map.Views.{All-from_any}
use Rattle.report_text.specs.Groups.{first_seen, is_text}
use Rattle.search_text.proofs.TextLists.{any_fold, any_same}
use Rattle.search_text.specs.SearchFindings.{Searched, has, resting, sightings_in, state_in, states_of, times_in}
use Rattle.search_text.specs.Texts.{End}
use Rattle.search_text.specs.Times.{Sighting}

none_any : (text : List ℕ) (texts : List (List ℕ)) → AllByRecursion (λ (other : List ℕ). is_text text other ≡ false) texts
    → list_any (is_text text) texts ≡ false
none_any text [] none = refl
none_any text (first ∷ texts) none = rw none.0 (none_any text texts none.1)

-- how often a text is counted: once if it is there, else never
abbrev once_if : Bool → ℕ
once_if there = if there then 1 else 0

-- one list before those that are counted
counted_before : (text : List ℕ) (ending : Option End) (later : List (List ℕ)) (count : ℕ) → IsDistinct is_text (state_in ending ++ later)
    → (IsDistinct is_text later → count ≡ once_if (list_any (is_text text) later))
    → cond (list_any (is_text text) (state_in ending)) 1 0 + count ≡ once_if (list_any (is_text text) (state_in ending ++ later))
counted_before text None later count once rest = (let same : 0 + count ≡ count = omega arith in same) ∙ rest once
counted_before text (Some end) later count once rest = by (is_text text end.state) refl
  where
    behind : count ≡ once_if (list_any (is_text text) later)
    behind = rest (IsDistinct-tail is_text end.state later once)

    by : (b : Bool) → is_text text end.state ≡ b
        → cond (list_any (is_text text) (end.state ∷ [])) 1 0 + count ≡ once_if (list_any (is_text text) (end.state ∷ later))
    by true p =
        let none : list_any (is_text text) later ≡ false =
        any_same text end.state later p ∙ none_any end.state later (IsDistinct-head is_text end.state later once) in
        let zero : count ≡ 0 = behind ∙ ap once_if none in
        rw p (omega (arith, zero))
    by false p = rw p ((let same : 0 + count ≡ count = omega arith in same) ∙ behind)

counted_if : (text : List ℕ) (lists : List Searched) → IsDistinct is_text (flat_map states_of lists)
    → count_by (has states_of text) lists ≡ once_if (list_any (is_text text) (flat_map states_of lists))
counted_if text [] once = refl
counted_if text (one ∷ later) once =
    sum_by-cons (λ (list : Searched). cond (has states_of text list) 1 0) one later
    ∙ counted_before text one.ending (flat_map states_of later) (count_by (has states_of text) later) once (counted_if text later)

pub counted_once : (lists : List Searched) → IsDistinct is_text (flat_map states_of lists)
    → All (λ (sighting : Sighting). sighting.1.0 ≡ 1) (sightings_in states_of lists)
counted_once lists once =
    All-map (λ (sighting : Sighting). sighting.1.0 ≡ 1) (λ (text : List ℕ). (text, times_in (has states_of text) lists))
    (first_seen (flat_map states_of lists))
    (All-from_any nat_list_eq_equiv (λ (text : List ℕ). resting (count_by (has states_of text) lists) ≡ 1)
    (first_seen (flat_map states_of lists))
    (λ text there. ap resting (counted_if text lists once
    ∙ ap once_if (sym (any_fold text [] (flat_map states_of lists)) ∙ there))))
