-- What is found, with the reports that are printed alone, is found of the lists with these.
use Rattle.std.proofs.Common.{◌≡◌, ◌+◌, ◌++◌, ◌∷◌, ◌∙◌, ◌||◌, ℕ, List, [], Bool, None, Some, true, false, ap, append-nil, cond, flat_map, fold, if◌then◌else◌}
use Rattle.std.proofs.Common.{map, refl, sym}
use Rattle.std.specs.Prelude.{count_by}
use Rattle.std.specs.Cmp.Lexicographic.{same_text}
use Rattle.std.specs.List.{filter, list_any}
use Rattle.std.proofs.lemmas.List.{length-map}
use Rattle.std.proofs.lemmas.List.Elements.{filter-append}
use Rattle.std.proofs.lemmas.List.Sums.{sum_by-cons}
use Rattle.report_text.specs.printed_reports.Texts.{is_printed_text}
use Rattle.report_text.specs.Groups.{first_seen, is_text, seen_too}
use Rattle.search_text.proofs.SightingLemmas.{each_with}
use Rattle.search_text.specs.Printed.{printed, printed_list, printed_lists, shown}
use Rattle.search_text.specs.SearchFindings.{Finds, Searched, fails, first_schedule, has, is_deadlocked, meets, resting, seen_in, sightings_in, states_of, times_in}
use Rattle.search_text.specs.Times.{Sighting, Times}
use Rattle.search_text.specs.declared.found.SearchFindings.{SearchFindings}

-- a list with the texts alone that are printed
abbrev without : Bool → Searched → Searched
without unknown one = printed_list unknown one

-- what a test says of no text stays
module _ (unknown : Bool) (test : Searched → Bool) (same : (one : Searched) → test (without unknown one) ≡ test one) where
  count_same : (lists : List Searched) → count_by test (map (without unknown) lists) ≡ count_by test lists
  count_same [] = refl
  count_same (one ∷ later) =
      sum_by-cons (λ (list : Searched). cond (test list) 1 0) (without unknown one) (map (without unknown) later)
      ∙ ap (λ b. cond b 1 0 + count_by test (map (without unknown) later)) (same one)
      ∙ ap (λ (n : ℕ). cond (test one) 1 0 + n) (count_same later)
      ∙ sym (sum_by-cons (λ (list : Searched). cond (test list) 1 0) one later)

  any_same : (lists : List Searched) → list_any test (map (without unknown) lists) ≡ list_any test lists
  any_same [] = refl
  any_same (one ∷ later) = ap (λ b. b || list_any test (map (without unknown) later)) (same one) ∙ ap (λ b. test one || b) (any_same later)

  first_same : (lists : List Searched) → first_schedule test (map (without unknown) lists) ≡ first_schedule test lists
  first_same [] = refl
  first_same (one ∷ later) =
      ap (λ b. if b then one.schedule else first_schedule test (map (without unknown) later)) (same one)
      ∙ ap (λ s. if test one then one.schedule else s) (first_same later)

  times_same : (lists : List Searched) → times_in test (map (without unknown) lists) ≡ times_in test lists
  times_same lists =
      ap (λ n. (resting n, first_schedule test (map (without unknown) lists))) (count_same lists)
      ∙ ap (λ s. (resting (count_by test lists), s)) (first_same lists)

  seen_same : (lists : List Searched) → seen_in test (map (without unknown) lists) ≡ seen_in test lists
  seen_same lists =
      ap (λ b. if b then Some (times_in test (map (without unknown) lists)) else None) (any_same lists)
      ∙ ap (λ t. if list_any test lists then Some t else None) (times_same lists)

states_flat : (unknown : Bool) (lists : List Searched) → flat_map states_of (map (without unknown) lists) ≡ flat_map states_of lists
states_flat unknown [] = refl
states_flat unknown (one ∷ later) = ap (λ ts. states_of one ++ ts) (states_flat unknown later)

states_same : (unknown : Bool) (lists : List Searched) → sightings_in states_of (map (without unknown) lists) ≡ sightings_in states_of lists
states_same unknown lists =
    ap (λ ts. each_with (λ text. times_in (has states_of text) (map (without unknown) lists)) (first_seen ts)) (states_flat unknown lists)
    ∙ ap (λ (times : List ℕ → Times). each_with times (first_seen (flat_map states_of lists)))
    (λ i text. times_same unknown (has states_of text) (λ one. refl) lists i)

module _ (unknown : Bool) where
  -- the text is printed
  abbrev keep : List ℕ → Bool
  keep text = is_printed_text unknown text

  -- a text that is printed is among those that are where it is among all
  any_kept : (text : List ℕ) (texts : List (List ℕ)) → keep text ≡ true
      → list_any (is_text text) (filter keep texts) ≡ list_any (is_text text) texts
  any_kept text [] kept = refl
  any_kept text (first ∷ texts) kept = by (keep first) refl (is_text text first) refl (any_kept text texts kept)
    where
      by : (b : Bool) → keep first ≡ b → (c : Bool) → is_text text first ≡ c
          → list_any (is_text text) (filter keep texts) ≡ list_any (is_text text) texts
          → list_any (is_text text) (filter keep (first ∷ texts)) ≡ list_any (is_text text) (first ∷ texts)
      by true p c q rest = rw p (ap (λ b. is_text text first || b) rest)
      by false p false q rest = rw (p, q) rest
      by false p true q rest = absurd (let no : false ≡ true = sym p ∙ ap keep (sym (same_text text first (sym q))) ∙ kept in cc)

  seen_kept : (before : List (List ℕ)) (text : List ℕ) → keep text ≡ true
      → filter keep (seen_too before text) ≡ seen_too (filter keep before) text
  seen_kept before text kept = by (list_any (is_text text) before) refl
    where
      by : (c : Bool) → list_any (is_text text) before ≡ c → filter keep (seen_too before text) ≡ seen_too (filter keep before) text
      by true q = rw (q, any_kept text before kept ∙ q)
      by false q = rw (q, any_kept text before kept ∙ q)
          (filter-append keep before (text ∷ []) ∙ ap (λ b. filter keep before ++ cond b (text ∷ []) []) kept)

  seen_hidden : (before : List (List ℕ)) (text : List ℕ) → keep text ≡ false → filter keep (seen_too before text) ≡ filter keep before
  seen_hidden before text hidden = by (list_any (is_text text) before) refl
    where
      by : (c : Bool) → list_any (is_text text) before ≡ c → filter keep (seen_too before text) ≡ filter keep before
      by true q = rw q
      by false q = rw q (filter-append keep before (text ∷ []) ∙ ap (λ b. filter keep before ++ cond b (text ∷ []) []) hidden ∙ append-nil (filter keep before))

  -- those that are printed are first met in the same order
  first_kept : (before texts : List (List ℕ)) → filter keep (fold seen_too before texts) ≡ fold seen_too (filter keep before) (filter keep texts)
  first_kept before [] = refl
  first_kept before (text ∷ texts) = by (keep text) refl (first_kept (seen_too before text) texts)
    where
      by : (b : Bool) → keep text ≡ b
          → filter keep (fold seen_too (seen_too before text) texts) ≡ fold seen_too (filter keep (seen_too before text)) (filter keep texts)
          → filter keep (fold seen_too before (text ∷ texts)) ≡ fold seen_too (filter keep before) (filter keep (text ∷ texts))
      by true p rest =
          rest
          ∙ ap (λ all. fold seen_too all (filter keep texts)) (seen_kept before text p)
          ∙ ap (λ b. fold seen_too (filter keep before) (cond b (text ∷ filter keep texts) (filter keep texts))) (sym p)
      by false p rest =
          rest
          ∙ ap (λ all. fold seen_too all (filter keep texts)) (seen_hidden before text p)
          ∙ ap (λ b. fold seen_too (filter keep before) (cond b (text ∷ filter keep texts) (filter keep texts))) (sym p)

  flat_kept : (lists : List Searched) → filter keep (flat_map (λ one. one.texts) lists) ≡ flat_map (λ one. one.texts) (map (without unknown) lists)
  flat_kept [] = refl
  flat_kept (one ∷ later) =
      filter-append keep one.texts (flat_map (λ one. one.texts) later) ∙ ap (λ ts. filter keep one.texts ++ ts) (flat_kept later)

  -- what is kept of each text, where it is printed
  shown_each : (times : List ℕ → Times) (texts : List (List ℕ))
      → shown unknown (each_with times texts) ≡ each_with times (filter keep texts)
  shown_each times [] = refl
  shown_each times (text ∷ texts) = by (keep text) refl (shown_each times texts)
    where
      by : (b : Bool) → keep text ≡ b → shown unknown (each_with times texts) ≡ each_with times (filter keep texts)
          → shown unknown (each_with times (text ∷ texts)) ≡ each_with times (filter keep (text ∷ texts))
      by true p rest = rw p (ap (λ ss. (text, times text) ∷ ss) rest)
      by false p rest = rw p rest

  kept_each : (times others : List ℕ → Times) → ((text : List ℕ) → keep text ≡ true → times text ≡ others text) → (texts : List (List ℕ))
      → each_with times (filter keep texts) ≡ each_with others (filter keep texts)
  kept_each times others same [] = refl
  kept_each times others same (text ∷ texts) = by (keep text) refl (kept_each times others same texts)
    where
      by : (b : Bool) → keep text ≡ b
          → each_with times (filter keep texts) ≡ each_with others (filter keep texts)
          → each_with times (filter keep (text ∷ texts)) ≡ each_with others (filter keep (text ∷ texts))
      by true p rest = rw p (ap (λ (t : Times). (text, t) ∷ each_with times (filter keep texts)) (same text p)
          ∙ ap (λ (ss : List Sighting). (text, others text) ∷ ss) rest)
      by false p rest = rw p rest

  reports_shown : (lists : List Searched) → shown unknown (sightings_in (λ one. one.texts) lists) ≡ sightings_in (λ one. one.texts) (map (without unknown) lists)
  reports_shown lists =
      shown_each (λ text. times_in (has (λ one. one.texts) text) lists) (first_seen (flat_map (λ one. one.texts) lists))
      ∙ kept_each (λ text. times_in (has (λ one. one.texts) text) lists) (λ text. times_in (has (λ one. one.texts) text) (map (without unknown) lists))
      (λ text kept. sym (times_same unknown (has (λ one. one.texts) text) (λ one. any_kept text one.texts kept) lists))
      (first_seen (flat_map (λ one. one.texts) lists))
      ∙ ap (each_with (λ text. times_in (has (λ one. one.texts) text) (map (without unknown) lists)))
      (first_kept [] (flat_map (λ one. one.texts) lists) ∙ ap first_seen (flat_kept lists))

pub printed_found : (unknown : Bool) (lists : List Searched) (all : SearchFindings) → Finds lists all
    → Finds (printed_lists unknown lists) (printed unknown all)
printed_found unknown lists all finds = record {
  reports = ap (shown unknown) finds.reports ∙ reports_shown unknown lists;
  stuck = finds.stuck ∙ sym (seen_same unknown is_deadlocked (λ one. refl) lists);
  states = finds.states ∙ sym (states_same unknown lists);
  searched = finds.searched ∙ ap resting (sym (length-map lists (without unknown)));
  held = finds.held ∙ ap resting (sym (count_same unknown meets (λ one. refl) lists));
  failed = finds.failed ∙ ap resting (sym (count_same unknown fails (λ one. refl) lists));
}

-- where those of unknown origin are wanted, all are printed
pub all_shown : (sightings : List Sighting) → sightings ≡ shown true sightings
all_shown [] = refl
all_shown (sighting ∷ sightings) = ap (λ ss. sighting ∷ ss) (all_shown sightings)
