-- What is found of lists, with one list more.
use Rattle.std.proofs.Common.{◌≡◌, ◌↔◌, ◌<◌, ◌++◌, ◌∷◌, ◌∙◌, ◌==◌, ◌||◌, ℕ, Contains, IsTrue, List, [], Bool}
use Rattle.std.proofs.Common.{Option, None, Some, true, false, ap, arith, fold, inl, inr, is_some, length, length-append, map, not, refl, sym, if◌then◌else◌}
use Rattle.std.specs.List.{flat_map, list_any}
use Rattle.std.proofs.lemmas.Bool.Decides.{eqb_tells}
use Rattle.std.proofs.lemmas.Cmp.{nat_list_eq_equiv}
use Rattle.std.proofs.lemmas.List.{length-map}
use Rattle.std.proofs.lemmas.Map.Views.{Contains-from_any, list_any-from_Contains}
use Rattle.std.specs.Cmp.Lexicographic.{same_text}
use Rattle.report_text.specs.Groups.{first_seen, is_text, one_more}
use Rattle.search_text.proofs.SightingLemmas.{count_on, counted_more, seen_on, sightings_on}
use Rattle.search_text.proofs.TextLists.{any_fold}
use Rattle.search_text.specs.declared.stopped.Stopped.{Stopped}
use Rattle.search_text.specs.SearchFindings.{Finds, Searched, ends_so, fails, has, is_deadlocked, is_none, meets, option_again, resting, seen_in, sightings_in, state_in, states_of, texts_of_all, times_in}
use Rattle.search_text.specs.Seen.{sighted}
use Rattle.search_text.specs.Texts.{End}
use Rattle.search_text.specs.Times.{Sighting, Times}
use Rattle.search_text.specs.Write.{search_text, states_search_text, text_found, text_of_both}
use Rattle.search_text.specs.declared.found.SearchFindings.{SearchFindings}

-- a final state is one text
one_state : (ending : Option End) → first_seen (state_in ending) ≡ state_in ending
one_state None = refl
one_state (Some end) = refl

pub finds_on : (lists : List Searched) (one : Searched) (old new : SearchFindings) → Finds lists old
    → new.reports ≡ fold (sighted one.schedule) old.reports (first_seen one.texts)
    → new.stuck ≡ (if is_none one.ending then option_again one.schedule old.stuck else old.stuck)
    → new.states ≡ fold (sighted one.schedule) old.states (state_in one.ending)
    → new.searched ≡ one_more old.searched
    → new.held ≡ (if ends_so true one.ending then one_more old.held else old.held)
    → new.failed ≡ (if ends_so false one.ending then one_more old.failed else old.failed)
    → Finds (lists ++ one ∷ []) new
finds_on lists one old new finds reports stuck states searched held failed = record {
  reports = reports ∙ ap (λ all. fold (sighted one.schedule) all (first_seen one.texts)) finds.reports
      ∙ sightings_on (λ list. list.texts) lists one;
  stuck = stuck ∙ ap (λ before. if is_none one.ending then option_again one.schedule before else before) finds.stuck
      ∙ sym (seen_on is_deadlocked lists one);
  states = states ∙ ap (λ all. fold (sighted one.schedule) all (state_in one.ending)) finds.states
      ∙ ap (λ own. fold (sighted one.schedule) (sightings_in states_of lists) own) (sym (one_state one.ending))
      ∙ sightings_on states_of lists one;
  searched = searched ∙ ap one_more finds.searched ∙ counted_more (length lists)
      ∙ ap resting (sym (length-append lists (one ∷ [])));
  held = held ∙ ap (λ n. if ends_so true one.ending then one_more n else n) finds.held ∙ sym (count_on meets lists one);
  failed = failed ∙ ap (λ n. if ends_so false one.ending then one_more n else n) finds.failed ∙ sym (count_on fails lists one);
}

not_zero : (n : ℕ) → 0 < n → (n == 0) ≡ false
not_zero n above = elim (eqb_tells n 0) [
  | inl none ↦ let is = none.1 in absurd (omega (arith, above, is))
  | inr differs ↦ differs.0
]

-- there are texts once each where there are texts
some_kept : (texts : List (List ℕ)) → (length (first_seen texts) == 0) ≡ (length texts == 0)
some_kept [] = refl
some_kept (text ∷ texts) = by (first_seen (text ∷ texts)) refl ∙ sym (not_zero (length (text ∷ texts)) (omega arith))
  where
    by : (kept : List (List ℕ)) → first_seen (text ∷ texts) ≡ kept → (length (first_seen (text ∷ texts)) == 0) ≡ false
    by [] e =
        let there : list_any (is_text text) (first_seen (text ∷ texts)) ≡ true =
        any_fold text [] (text ∷ texts) ∙ ap (λ b. b || list_any (is_text text) texts) (nat_list_eq_equiv.refl text) in
        let none : list_any (is_text text) (first_seen (text ∷ texts)) ≡ false = ap (list_any (is_text text)) e in
        let no : false ≡ true = sym none ∙ there in
        cc
    by (first ∷ kept) e = ap (λ all. length all == 0) e ∙ not_zero (length (first ∷ kept)) (omega arith)

pub reports_kept : (lists : List Searched) (found : SearchFindings) → Finds lists found
    → not (length found.reports == 0) ≡ not (length (texts_of_all lists) == 0)
reports_kept lists found finds =
    ap (λ all. not (length all == 0)) finds.reports
    ∙ ap (λ n. not (n == 0)) (length-map (first_seen (texts_of_all lists)) _)
    ∙ ap not (some_kept (texts_of_all lists))

-- what is found is what is written
pub text_found_is : (name : List ℕ) (switches nodes : ℕ) (stopped : Stopped) (lists : List Searched) (found : SearchFindings) → Finds lists found
    → text_found name switches nodes stopped found ≡ search_text name switches nodes stopped lists
text_found_is name switches nodes stopped lists found finds =
    rw (finds.reports, finds.stuck, finds.states, finds.searched, finds.held, finds.failed)

pub text_of_both_is : (name : List ℕ) (stopped : Stopped) (visited : ℕ) (reports ends : List Searched) (reported ended : SearchFindings)
    → Finds reports reported → Finds ends ended
    → text_of_both name stopped visited reported ended ≡ states_search_text name stopped visited reports ends
text_of_both_is name stopped visited reports ends reported ended first second =
    rw (first.reports, second.stuck, second.states, second.held, second.failed)

-- a text is among those that are kept of texts where it is among these
any_each : (text : List ℕ) (times : List ℕ → Times) (texts : List (List ℕ))
    → list_any (λ (sighting : Sighting). is_text text sighting.0) (map (λ one. (one, times one)) texts) ≡ list_any (is_text text) texts
any_each text times [] = refl
any_each text times (first ∷ texts) = ap (λ b. is_text text first || b) (any_each text times texts)

-- a text that was seen is one of those that the lists have
any_text : (of : Searched → List (List ℕ)) (text : List ℕ) (lists : List Searched) (sightings : List Sighting) → sightings ≡ sightings_in of lists
    → list_any (λ sighting. is_text text sighting.0) sightings ≡ list_any (is_text text) (flat_map of lists)
any_text of text lists sightings are =
    ap (list_any (λ sighting. is_text text sighting.0)) are
    ∙ any_each text (λ one. times_in (has of one) lists) (first_seen (flat_map of lists))
    ∙ any_fold text [] (flat_map of lists)

pub text_there : (of : Searched → List (List ℕ)) (text : List ℕ) (lists : List Searched) (sightings : List Sighting) (result : Bool)
    → result ≡ list_any (λ sighting. is_text text sighting.0) sightings → sightings ≡ sightings_in of lists
    → IsTrue result ↔ Contains (flat_map of lists) text
text_there of text lists sightings result told are =
    let same = told ∙ any_text of text lists sightings are in (
      λ is. Contains-from_any (λ one other e. same_text one other (sym e)) text (flat_map of lists) (sym same ∙ is),
      λ there. same ∙ list_any-from_Contains nat_list_eq_equiv text (flat_map of lists) there,
    )

-- something was seen where a list passes
pub seen_there : (test : Searched → Bool) (lists : List Searched) (seen : Option Times) → seen ≡ seen_in test lists
    → is_some seen ≡ list_any test lists
seen_there test lists seen is = ap is_some is ∙ by (list_any test lists)
  where
    by : (b : Bool) → is_some (if b then Some (times_in test lists) else None) ≡ b
    by true = refl
    by false = refl
