-- The first lists with each text are enough for the texts, their order and the schedules of the first.
use Rattle.std.proofs.Common.{◌≡◌, ◌++◌, ◌∷◌, ◌∙◌, ◌||◌, ℕ, List, [], Bool, true, false, ap, append_assoc, append-nil}
use Rattle.std.proofs.Common.{flat_map, fold, map, refl, subst, sym, if◌then◌else◌}
use Rattle.std.specs.List.{list_any}
use Rattle.std.proofs.lemmas.Cmp.{nat_list_eq_equiv}
use Rattle.std.proofs.lemmas.List.Folds.{list_any-append}
use Rattle.report_text.specs.Groups.{first_seen, is_text}
use Rattle.search_text.proofs.SightingLemmas.{sightings_on}
use Rattle.search_text.proofs.TextLists.{any_fold, or_true}
use Rattle.search_text.specs.FirstLists.{First, KeepsFirst, KeepsFirstLists, deadlocks_of, firsts_of, left_out, none, taken}
use Rattle.search_text.specs.SearchFindings.{Searched, first_schedule, has, sightings_in, states_of}
use Rattle.search_text.specs.Seen.{sighted}
use Rattle.search_text.specs.Times.{Sighting}
use Rattle.prepared_program.specs.declared.step_schedule.schedule.Entry.{Entry}

-- the texts with their first schedules, after a text of a list of this schedule: a new text stands last
abbrev noted : List Entry → List First → List ℕ → List First
noted schedule [] text = (text, schedule) ∷ []
noted schedule (first ∷ more) text = if is_text text first.0 then first ∷ more else first ∷ noted schedule more text

-- the text is one of them
abbrev knows : List ℕ → List First → Bool
knows text firsts = list_any (λ first. is_text text first.0) firsts

-- each distinct text of one list more
abbrev pub all_sighted : (Searched → List (List ℕ)) → List Sighting → Searched → List Sighting
all_sighted of sightings one = fold (sighted one.schedule) sightings (first_seen (of one))

abbrev all_noted : (Searched → List (List ℕ)) → List First → Searched → List First
all_noted of firsts one = fold (noted one.schedule) firsts (first_seen (of one))

noted_one : (schedule : List Entry) (sightings : List Sighting) (text : List ℕ)
    → firsts_of (sighted schedule sightings text) ≡ noted schedule (firsts_of sightings) text
noted_one schedule [] text = refl
noted_one schedule (first ∷ sightings) text = by (is_text text first.0) refl (noted_one schedule sightings text)
  where
    by : (b : Bool) → is_text text first.0 ≡ b
        → firsts_of (sighted schedule sightings text) ≡ noted schedule (firsts_of sightings) text
        → firsts_of (sighted schedule (first ∷ sightings) text) ≡ noted schedule (firsts_of (first ∷ sightings)) text
    by true p rest = rw p
    by false p rest = rw p (ap (λ fs. (first.0, first.1.1) ∷ fs) rest)

noted_texts : (schedule : List Entry) (sightings : List Sighting) (texts : List (List ℕ))
    → firsts_of (fold (sighted schedule) sightings texts) ≡ fold (noted schedule) (firsts_of sightings) texts
noted_texts schedule sightings [] = refl
noted_texts schedule sightings (text ∷ texts) =
    noted_texts schedule (sighted schedule sightings text) texts
    ∙ ap (λ fs. fold (noted schedule) fs texts) (noted_one schedule sightings text)

noted_lists : (of : Searched → List (List ℕ)) (sightings : List Sighting) (lists : List Searched)
    → firsts_of (fold (all_sighted of) sightings lists) ≡ fold (all_noted of) (firsts_of sightings) lists
noted_lists of sightings [] = refl
noted_lists of sightings (one ∷ lists) =
    noted_lists of (all_sighted of sightings one) lists
    ∙ ap (λ fs. fold (all_noted of) fs lists) (noted_texts one.schedule sightings (first_seen (of one)))

-- a text that is known changes nothing
noted_known : (schedule : List Entry) (firsts : List First) (text : List ℕ) → knows text firsts ≡ true
    → noted schedule firsts text ≡ firsts
noted_known schedule [] text known = cc
noted_known schedule (first ∷ firsts) text known = by (is_text text first.0) refl (noted_known schedule firsts text)
  where
    by : (b : Bool) → is_text text first.0 ≡ b
        → (knows text firsts ≡ true → noted schedule firsts text ≡ firsts)
        → noted schedule (first ∷ firsts) text ≡ first ∷ firsts
    by true p rest = rw p
    by false p rest = rw p (ap (λ fs. first ∷ fs) (rest (rw p at known)))

-- nor do texts that are
texts_known : (schedule : List Entry) (firsts : List First) (texts : List (List ℕ))
    → ((text : List ℕ) → list_any (is_text text) texts ≡ true → knows text firsts ≡ true)
    → fold (noted schedule) firsts texts ≡ firsts
texts_known schedule firsts [] known = refl
texts_known schedule firsts (text ∷ texts) known =
    ap (λ fs. fold (noted schedule) fs texts)
    (noted_known schedule firsts text (known text (ap (λ b. b || list_any (is_text text) texts) (nat_list_eq_equiv.refl text))))
    ∙ texts_known schedule firsts texts
    (λ other there. known other (ap (λ b. is_text other text || b) there ∙ or_true (is_text other text)))

-- a text that is known stays so
knows_still : (schedule : List Entry) (text : List ℕ) (firsts : List First) (later : List ℕ) → knows text firsts ≡ true
    → knows text (noted schedule firsts later) ≡ true
knows_still schedule text [] later known = cc
knows_still schedule text (first ∷ firsts) later known =
    by (is_text later first.0) refl (is_text text first.0) refl (knows_still schedule text firsts later)
  where
    by : (b : Bool) → is_text later first.0 ≡ b → (c : Bool) → is_text text first.0 ≡ c
        → (knows text firsts ≡ true → knows text (noted schedule firsts later) ≡ true)
        → knows text (noted schedule (first ∷ firsts) later) ≡ true
    by true p c q rest = rw p known
    by false p true q rest = rw (p, q)
    by false p false q rest = rw (p, q) (rest (rw q at known))

-- a text that was added is known
knows_noted : (schedule : List Entry) (text : List ℕ) (firsts : List First) (later : List ℕ) → is_text text later ≡ true
    → knows text (noted schedule firsts later) ≡ true
knows_noted schedule text [] later is = rw is
knows_noted schedule text (first ∷ firsts) later is =
    by (is_text later first.0) refl (is_text text first.0) refl (knows_noted schedule text firsts later is)
  where
    by : (b : Bool) → is_text later first.0 ≡ b → (c : Bool) → is_text text first.0 ≡ c
        → knows text (noted schedule firsts later) ≡ true
        → knows text (noted schedule (first ∷ firsts) later) ≡ true
    by true p c q rest = rw (p, nat_list_eq_equiv.congr text later first.0 is ∙ p)
    by false p true q rest = rw (p, q)
    by false p false q rest = rw (p, q) rest

all_still : (schedule : List Entry) (text : List ℕ) (firsts : List First) (texts : List (List ℕ)) → knows text firsts ≡ true
    → knows text (fold (noted schedule) firsts texts) ≡ true
all_still schedule text firsts [] known = known
all_still schedule text firsts (later ∷ texts) known =
    all_still schedule text (noted schedule firsts later) texts (knows_still schedule text firsts later known)

knows_texts : (schedule : List Entry) (text : List ℕ) (firsts : List First) (texts : List (List ℕ))
    → list_any (is_text text) texts ≡ true → knows text (fold (noted schedule) firsts texts) ≡ true
knows_texts schedule text firsts [] there = cc
knows_texts schedule text firsts (later ∷ texts) there =
    by (is_text text later) refl (knows_texts schedule text (noted schedule firsts later) texts)
  where
    by : (b : Bool) → is_text text later ≡ b
        → (list_any (is_text text) texts ≡ true → knows text (fold (noted schedule) (noted schedule firsts later) texts) ≡ true)
        → knows text (fold (noted schedule) (noted schedule firsts later) texts) ≡ true
    by true p rest = all_still schedule text (noted schedule firsts later) texts (knows_noted schedule text firsts later p)
    by false p rest = rest (rw p at there)

-- the texts of a list that is taken are known from there on
known_on : (of : Searched → List (List ℕ)) (seen : List (List ℕ)) (one : Searched) (firsts : List First)
    → ((text : List ℕ) → list_any (is_text text) seen ≡ true → knows text firsts ≡ true)
    → (text : List ℕ) → list_any (is_text text) (seen ++ of one) ≡ true → knows text (all_noted of firsts one) ≡ true
known_on of seen one firsts known text there = by (list_any (is_text text) seen) refl
  where
    either : (list_any (is_text text) seen || list_any (is_text text) (of one)) ≡ true
    either = sym (list_any-append (is_text text) seen (of one)) ∙ there

    by : (b : Bool) → list_any (is_text text) seen ≡ b → knows text (all_noted of firsts one) ≡ true
    by true p = all_still one.schedule text firsts (first_seen (of one)) (known text p)
    by false p = knows_texts one.schedule text firsts (first_seen (of one)) (any_fold text [] (of one) ∙ rw p at either)

kept : (of : Searched → List (List ℕ)) (seen : List (List ℕ)) (all some : List Searched) → KeepsFirst of seen all some
    → (firsts : List First) → ((text : List ℕ) → list_any (is_text text) seen ≡ true → knows text firsts ≡ true)
    → fold (all_noted of) firsts all ≡ fold (all_noted of) firsts some
kept of _ _ _ (none seen) firsts known = refl
kept of _ _ _ (taken seen one all some later) firsts known =
    kept of (seen ++ of one) all some later (all_noted of firsts one) (known_on of seen one firsts known)
kept of _ _ _ (left_out seen one all some old later) firsts known =
    ap (λ fs. fold (all_noted of) fs all) (texts_known one.schedule firsts (first_seen (of one))
    (λ text there. known text (old text (sym (any_fold text [] (of one)) ∙ there))))
    ∙ kept of seen all some later firsts known

-- what is found of lists is what is added of one after the other
pub sightings_fold : (of : Searched → List (List ℕ)) (before later : List Searched)
    → fold (all_sighted of) (sightings_in of before) later ≡ sightings_in of (before ++ later)
sightings_fold of before [] = ap (sightings_in of) (sym (append-nil before))
sightings_fold of before (one ∷ later) =
    ap (λ ss. fold (all_sighted of) ss later) (sightings_on of before one)
    ∙ sightings_fold of (before ++ one ∷ []) later
    ∙ ap (sightings_in of) (append_assoc before (one ∷ []) later)

-- the texts of some lists, added one list after the other
pub firsts_fold : (of : Searched → List (List ℕ)) (all some : List Searched) → KeepsFirst of [] all some
    → firsts_of (fold (all_sighted of) [] all) ≡ firsts_of (fold (all_sighted of) [] some)
firsts_fold of all some keeps =
    noted_lists of [] all
    ∙ kept of [] all some keeps [] (λ text there. there)
    ∙ sym (noted_lists of [] some)

pub firsts_enough : (of : Searched → List (List ℕ)) (all some : List Searched) → KeepsFirst of [] all some
    → firsts_of (sightings_in of all) ≡ firsts_of (sightings_in of some)
firsts_enough of all some keeps =
    ap firsts_of (sym (sightings_fold of [] all)) ∙ firsts_fold of all some keeps ∙ ap firsts_of (sightings_fold of [] some)

-- What is chosen of items that show lists is chosen of the lists.
keeps_shown : {X : Type 0} (view : X → Searched) (of : Searched → List (List ℕ)) (seen : List (List ℕ)) (all some : List X)
    → KeepsFirst (λ one. of (view one)) seen all some → KeepsFirst of seen (map view all) (map view some)
keeps_shown view of _ _ _ (none seen) = none seen
keeps_shown view of _ _ _ (taken seen one all some later) =
    taken seen (view one) (map view all) (map view some) (keeps_shown view of (seen ++ of (view one)) all some later)
keeps_shown view of _ _ _ (left_out seen one all some old later) =
    left_out seen (view one) (map view all) (map view some) old (keeps_shown view of seen all some later)

pub lists_shown : {X : Type 0} (view : X → Searched) (all some : List X) → KeepsFirstLists view all some
    → KeepsFirstLists (λ one. one) (map view all) (map view some)
lists_shown view all some keeps = record {
  reports = keeps_shown view (λ one. one.texts) [] all some keeps.reports;
  states = keeps_shown view states_of [] all some keeps.states;
  deadlocks = keeps_shown view deadlocks_of [] all some keeps.deadlocks;
}

-- Of more lists behind these some are chosen too, where the texts of those that were chosen are known.
pub keeps_behind : {X : Type 0} (of : X → List (List ℕ)) (seen : List (List ℕ)) (all some more others : List X) → KeepsFirst of seen all some
    → KeepsFirst of (seen ++ flat_map of some) more others → KeepsFirst of seen (all ++ more) (some ++ others)
keeps_behind of _ _ _ more others (none seen) behind = subst (λ known. KeepsFirst of known more others) (append-nil seen) behind
keeps_behind of _ _ _ more others (taken seen one all some later) behind =
    taken seen one (all ++ more) (some ++ others) (keeps_behind of (seen ++ of one) all some more others later
    (subst (λ known. KeepsFirst of known more others) (sym (append_assoc seen (of one) (flat_map of some))) behind))
keeps_behind of _ _ _ more others (left_out seen one all some old later) behind =
    left_out seen one (all ++ more) (some ++ others) old (keeps_behind of seen all some more others later behind)

-- so it is of one list more that is chosen
pub taken_last : {X : Type 0} (of : X → List (List ℕ)) (seen : List (List ℕ)) (all some : List X) (one : X) → KeepsFirst of seen all some
    → KeepsFirst of seen (all ++ one ∷ []) (some ++ one ∷ [])
taken_last of seen all some one keeps =
    keeps_behind of seen all some (one ∷ []) (one ∷ []) keeps
    (taken (seen ++ flat_map of some) one [] [] (none ((seen ++ flat_map of some) ++ of one)))

-- and of one whose texts are known
pub left_last : {X : Type 0} (of : X → List (List ℕ)) (seen : List (List ℕ)) (all some : List X) (one : X) → KeepsFirst of seen all some
    → ((text : List ℕ) → list_any (is_text text) (of one) ≡ true → list_any (is_text text) (seen ++ flat_map of some) ≡ true)
    → KeepsFirst of seen (all ++ one ∷ []) some
left_last of seen all some one keeps known =
    subst (KeepsFirst of seen (all ++ one ∷ [])) (append-nil some)
    (keeps_behind of seen all some (one ∷ []) [] keeps
    (left_out (seen ++ flat_map of some) one [] [] known (none (seen ++ flat_map of some))))

-- a list is there, and the schedule of the first is the same, behind one that passes or one that doesn't
both_on : (passes there here : Bool) (own first other : List Entry) → (passes ≡ false → (there ≡ here) × (first ≡ other))
    → ((passes || there) ≡ (passes || here)) × ((if passes then own else first) ≡ (if passes then own else other))
both_on true there here own first other rest = (refl, refl)
both_on false there here own first other rest = rest refl

one_on : (passes there here : Bool) (own first other : List Entry) → passes ≡ false → (there ≡ here) × (first ≡ other)
    → ((passes || there) ≡ here) × ((if passes then own else first) ≡ other)
one_on true there here own first other fails rest = let no : true ≡ false = fails in absurd (let never : ⊥ = cc in never)
one_on false there here own first other fails rest = rest

-- the first list with a text that is not known is chosen
pub first_chosen : (of : Searched → List (List ℕ)) (text : List ℕ) (seen : List (List ℕ)) (all some : List Searched) → KeepsFirst of seen all some
    → list_any (is_text text) seen ≡ false
    → (list_any (has of text) all ≡ list_any (has of text) some) × (first_schedule (has of text) all ≡ first_schedule (has of text) some)
first_chosen of text _ _ _ (none seen) new = (refl, refl)
first_chosen of text _ _ _ (taken seen one all some later) new =
    both_on (has of text one) (list_any (has of text) all) (list_any (has of text) some) one.schedule (first_schedule (has of text) all)
    (first_schedule (has of text) some)
    (λ fails. first_chosen of text (seen ++ of one) all some later
    (list_any-append (is_text text) seen (of one) ∙ ap (λ b. b || list_any (is_text text) (of one)) new ∙ fails))
first_chosen of text _ _ _ (left_out seen one all some old later) new =
    one_on (has of text one) (list_any (has of text) all) (list_any (has of text) some) one.schedule (first_schedule (has of text) all)
    (first_schedule (has of text) some) (fails (has of text one) refl) (first_chosen of text seen all some later new)
  where
    fails : (b : Bool) → has of text one ≡ b → has of text one ≡ false
    fails false is = is
    fails true is = let no : true ≡ false = sym (old text is) ∙ new in absurd (let never : ⊥ = cc in never)
