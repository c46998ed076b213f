-- What is seen in lists, with one list more.
use Rattle.std.proofs.Common.{◌≡◌, ◌+◌, ◌-◌, ◌^◌, ◌++◌, ◌∷◌, ◌∙◌, ◌||◌, ℕ, List, [], Bool, Option, None, Some, true}
use Rattle.std.proofs.Common.{false, ap, append_assoc, arith, append-nil, cond, flat_map, fold, length, map, min, refl, subst, sym, if◌then◌else◌}
use Rattle.std.specs.Prelude.{count_by}
use Rattle.std.specs.List.{list_any}
use Rattle.std.proofs.lemmas.Cmp.{nat_list_eq_equiv}
use Rattle.std.proofs.lemmas.Grind.{flat_map-append}
use Rattle.std.proofs.lemmas.List.{map-append}
use Rattle.std.proofs.lemmas.List.Folds.{list_any-append}
use Rattle.std.proofs.lemmas.List.Sums.{fold-append}
use Rattle.report_text.specs.Groups.{first_seen, is_text, one_more, seen_too}
use Rattle.search_text.proofs.TextLists.{AreDistinct, any_flat, any_fold, any_more, any_same, distinct_fold, fold_first, left_of, not_before, or_false, or_true, right_of}
use Rattle.search_text.specs.SearchFindings.{Searched, first_schedule, has, option_again, resting, seen_in, sightings_in, times_in}
use Rattle.search_text.specs.Seen.{again, sighted}
use Rattle.search_text.specs.Times.{Sighting, Times}
use Rattle.prepared_program.specs.declared.step_schedule.schedule.Entry.{Entry}

-- each text with what is kept of it
abbrev pub each_with : (List ℕ → Times) → List (List ℕ) → List Sighting
each_with times texts = map (λ text. (text, times text)) texts

each_same : (times others : List ℕ → Times) → ((text : List ℕ) → times text ≡ others text) → (texts : List (List ℕ))
    → each_with times texts ≡ each_with others texts
each_same times others same [] = refl
each_same times others same (text ∷ texts) =
    ap (λ t. (text, t) ∷ each_with times texts) (same text) ∙ ap (λ ss. (text, others text) ∷ ss) (each_same times others same texts)

-- what is kept of texts other than this one
each_other : (text : List ℕ) (times others : List ℕ → Times) (texts : List (List ℕ)) → list_any (is_text text) texts ≡ false
    → ((other : List ℕ) → is_text text other ≡ false → others other ≡ times other)
    → each_with times texts ≡ each_with others texts
each_other text times others [] new same = refl
each_other text times others (first ∷ texts) new same =
    ap (λ t. (first, t) ∷ each_with times texts) (sym (same first (left_of (is_text text first) (list_any (is_text text) texts) new)))
    ∙ ap (λ ss. (first, others first) ∷ ss)
    (each_other text times others texts (right_of (is_text text first) (list_any (is_text text) texts) new) same)

-- a new text stands last
sighted_new : (schedule : List Entry) (text : List ℕ) (times : List ℕ → Times) (texts : List (List ℕ))
    → list_any (is_text text) texts ≡ false
    → sighted schedule (each_with times texts) text ≡ each_with times texts ++ (text, (1, schedule)) ∷ []
sighted_new schedule text times [] new = refl
sighted_new schedule text times (first ∷ texts) new =
    let other = left_of (is_text text first) (list_any (is_text text) texts) new in
    rw other (ap (λ ss. (first, times first) ∷ ss)
    (sighted_new schedule text times texts (right_of (is_text text first) (list_any (is_text text) texts) new)))

-- another is counted once more
sighted_old : (schedule : List Entry) (text : List ℕ) (times others : List ℕ → Times) (texts : List (List ℕ)) → AreDistinct texts
    → list_any (is_text text) texts ≡ true
    → ((other : List ℕ) → is_text text other ≡ false → others other ≡ times other)
    → ((other : List ℕ) → is_text text other ≡ true → others other ≡ again (times other))
    → sighted schedule (each_with times texts) text ≡ each_with others texts
sighted_old schedule text times others [] distinct old same more = cc
sighted_old schedule text times others (first ∷ texts) distinct old same more =
    by (is_text text first) refl (λ later. sighted_old schedule text times others texts distinct.1 later same more)
  where
    by : (b : Bool) → is_text text first ≡ b
        → (list_any (is_text text) texts ≡ true → sighted schedule (each_with times texts) text ≡ each_with others texts)
        → sighted schedule (each_with times (first ∷ texts)) text ≡ each_with others (first ∷ texts)
    by true p rest = rw p (
        ap (λ t. (first, t) ∷ each_with times texts) (sym (more first p))
        ∙ ap (λ ss. (first, others first) ∷ ss)
        (each_other text times others texts (any_same text first texts p ∙ distinct.0) same))
    by false p rest = rw p (
        ap (λ t. (first, t) ∷ sighted schedule (each_with times texts) text) (sym (same first p))
        ∙ ap (λ ss. (first, others first) ∷ ss) (rest (rw p at old)))

-- a text more, whichever it is
sighted_more : (schedule : List Entry) (text : List ℕ) (times others : List ℕ → Times) (texts : List (List ℕ)) → AreDistinct texts
    → ((other : List ℕ) → is_text text other ≡ false → others other ≡ times other)
    → (list_any (is_text text) texts ≡ true → (other : List ℕ) → is_text text other ≡ true → others other ≡ again (times other))
    → (list_any (is_text text) texts ≡ false → others text ≡ (1, schedule))
    → sighted schedule (each_with times texts) text ≡ each_with others (seen_too texts text)
sighted_more schedule text times others texts distinct same more new = by (list_any (is_text text) texts) refl
  where
    by : (c : Bool) → list_any (is_text text) texts ≡ c
        → sighted schedule (each_with times texts) text ≡ each_with others (seen_too texts text)
    by true p = rw p (sighted_old schedule text times others texts distinct p same (more p))
    by false p = rw p (
        sighted_new schedule text times texts p
        ∙ ap (λ ss. ss ++ (text, (1, schedule)) ∷ []) (each_other text times others texts p same)
        ∙ ap (λ t. each_with others texts ++ (text, t) ∷ []) (sym (new p))
        ∙ sym (map-append (λ t. (t, others t)) texts (text ∷ [])))

-- how often is counted once more, and rests
pub counted_more : (n : ℕ) → one_more (resting n) ≡ resting (n + 1)
counted_more n = omega arith

count_last : (test : Searched → Bool) (lists : List Searched) (one : Searched)
    → count_by test (lists ++ one ∷ []) ≡ count_by test lists + cond (test one) 1 0
count_last test lists one = fold-append (λ a x. a + cond (test x) 1 0) 0 lists (one ∷ [])

pub count_on : (test : Searched → Bool) (lists : List Searched) (one : Searched)
    → resting (count_by test (lists ++ one ∷ []))
    ≡ (if test one then one_more (resting (count_by test lists)) else resting (count_by test lists))
count_on test lists one = ap resting (count_last test lists one) ∙ by (test one)
  where
    by : (b : Bool) → resting (count_by test lists + cond b 1 0)
        ≡ (if b then one_more (resting (count_by test lists)) else resting (count_by test lists))
    by true = sym (counted_more (count_by test lists))
    by false = omega arith

count_none : (test : Searched → Bool) (lists : List Searched) → list_any test lists ≡ false → count_by test lists ≡ 0
count_none test lists none = from lists [] none refl
  where
    from : (later before : List Searched) → list_any test later ≡ false → count_by test before ≡ 0 → count_by test (before ++ later) ≡ 0
    from [] before none zero = ap (count_by test) (append-nil before) ∙ zero
    from (one ∷ later) before none zero =
        let fails = left_of (test one) (list_any test later) none in
        ap (count_by test) (sym (append_assoc before (one ∷ []) later))
        ∙ from later (before ++ one ∷ []) (right_of (test one) (list_any test later) none)
        (count_last test before one ∙ ap (λ b. count_by test before + cond b 1 0) fails ∙ omega (arith, zero))

first_last : (test : Searched → Bool) (lists : List Searched) (one : Searched)
    → first_schedule test (lists ++ one ∷ [])
    ≡ (if list_any test lists then first_schedule test lists else if test one then one.schedule else [])
first_last test [] one = refl
first_last test (first ∷ lists) one = by (test first) refl (first_last test lists one)
  where
    by : (b : Bool) → test first ≡ b
        → first_schedule test (lists ++ one ∷ [])
        ≡ (if list_any test lists then first_schedule test lists else if test one then one.schedule else [])
        → first_schedule test (first ∷ (lists ++ one ∷ []))
        ≡ (if list_any test (first ∷ lists) then first_schedule test (first ∷ lists) else if test one then one.schedule else [])
    by true p rest = rw p
    by false p rest = rw p rest

-- no schedule, where no list passes
first_none : (test : Searched → Bool) (lists : List Searched) → list_any test lists ≡ false → first_schedule test lists ≡ []
first_none test [] none = refl
first_none test (first ∷ lists) none =
    let fails = left_of (test first) (list_any test lists) none in
    rw fails (first_none test lists (right_of (test first) (list_any test lists) none))

-- what is kept of the lists that pass, with one list more
pub times_on : (test : Searched → Bool) (lists : List Searched) (one : Searched)
    → times_in test (lists ++ one ∷ [])
    ≡ (if test one then (if list_any test lists then again (times_in test lists) else (1, one.schedule)) else times_in test lists)
times_on test lists one = by (test one) refl (list_any test lists) refl
  where
    by : (b : Bool) → test one ≡ b → (c : Bool) → list_any test lists ≡ c
        → times_in test (lists ++ one ∷ [])
        ≡ (if test one then (if list_any test lists then again (times_in test lists) else (1, one.schedule)) else times_in test lists)
    by true p true q =
        let count : resting (count_by test (lists ++ one ∷ [])) ≡ one_more (resting (count_by test lists)) = rw p at (count_on test lists one) in
        let first : first_schedule test (lists ++ one ∷ []) ≡ first_schedule test lists = rw q at (first_last test lists one) in
        rw (p, q) (ap (λ n. (n, first_schedule test (lists ++ one ∷ []))) count ∙ ap (λ s. (one_more (resting (count_by test lists)), s)) first)
    by true p false q =
        let count : resting (count_by test (lists ++ one ∷ [])) ≡ one_more (resting (count_by test lists)) = rw p at (count_on test lists one) in
        let none : one_more (resting (count_by test lists)) ≡ 1 = ap (λ n. one_more (resting n)) (count_none test lists q) in
        let first : first_schedule test (lists ++ one ∷ []) ≡ one.schedule = rw (q, p) at (first_last test lists one) in
        rw (p, q) (ap (λ n. (n, first_schedule test (lists ++ one ∷ []))) (count ∙ none) ∙ ap (λ s. (1, s)) first)
    by false p true q =
        let count : resting (count_by test (lists ++ one ∷ [])) ≡ resting (count_by test lists) = rw p at (count_on test lists one) in
        let first : first_schedule test (lists ++ one ∷ []) ≡ first_schedule test lists = rw q at (first_last test lists one) in
        rw p (ap (λ n. (n, first_schedule test (lists ++ one ∷ []))) count ∙ ap (λ s. (resting (count_by test lists), s)) first)
    by false p false q =
        let count : resting (count_by test (lists ++ one ∷ [])) ≡ resting (count_by test lists) = rw p at (count_on test lists one) in
        let first : first_schedule test (lists ++ one ∷ []) ≡ [] = rw (q, p) at (first_last test lists one) in
        rw p (ap (λ n. (n, first_schedule test (lists ++ one ∷ []))) count
        ∙ ap (λ s. (resting (count_by test lists), s)) (first ∙ sym (first_none test lists q)))

-- so it is of the lists that pass, if there are any
pub seen_on : (test : Searched → Bool) (lists : List Searched) (one : Searched)
    → seen_in test (lists ++ one ∷ []) ≡ (if test one then option_again one.schedule (seen_in test lists) else seen_in test lists)
seen_on test lists one = by (test one) refl (list_any test lists) refl
  where
    any : list_any test (lists ++ one ∷ []) ≡ (list_any test lists || test one)
    any = list_any-append test lists (one ∷ []) ∙ ap (λ b. list_any test lists || b) (or_false (test one))

    by : (b : Bool) → test one ≡ b → (c : Bool) → list_any test lists ≡ c
        → seen_in test (lists ++ one ∷ []) ≡ (if test one then option_again one.schedule (seen_in test lists) else seen_in test lists)
    by true p true q =
        let all : list_any test (lists ++ one ∷ []) ≡ true = any ∙ ap (λ b. b || test one) q in
        let times : times_in test (lists ++ one ∷ []) ≡ again (times_in test lists) = rw (p, q) at (times_on test lists one) in
        rw (p, q, all) (ap (λ t. Some t) times)
    by true p false q =
        let all : list_any test (lists ++ one ∷ []) ≡ true = any ∙ ap (λ b. b || test one) q ∙ p in
        let times : times_in test (lists ++ one ∷ []) ≡ (1, one.schedule) = rw (p, q) at (times_on test lists one) in
        rw (p, q, all) (ap (λ t. Some t) times)
    by false p true q =
        let all : list_any test (lists ++ one ∷ []) ≡ true = any ∙ ap (λ b. b || test one) q in
        let times : times_in test (lists ++ one ∷ []) ≡ times_in test lists = rw p at (times_on test lists one) in
        rw (p, q, all) (ap (λ t. Some t) times)
    by false p false q =
        let all : list_any test (lists ++ one ∷ []) ≡ false = any ∙ ap (λ b. b || test one) q ∙ p in
        rw (p, q, all)

-- The lists so far, and some texts of one list more.
module _ (of : Searched → List (List ℕ)) (lists : List Searched) (schedule : List Entry) where
  abbrev all_of : List (List ℕ)
  all_of = flat_map of lists

  -- what is kept of a text
  abbrev times_with : List (List ℕ) → List ℕ → Times
  times_with some text =
      if list_any (is_text text) some
      then (if list_any (is_text text) all_of then again (times_in (has of text) lists) else (1, schedule))
      else times_in (has of text) lists

  abbrev kept_with : List (List ℕ) → List Sighting
  kept_with some = each_with (times_with some) (fold seen_too (first_seen all_of) some)

  any_known : (text : List ℕ) (some : List (List ℕ)) → list_any (is_text text) some ≡ false
      → list_any (is_text text) (fold seen_too (first_seen all_of) some) ≡ list_any (is_text text) all_of
  any_known text some new =
      any_fold text (first_seen all_of) some ∙ ap (λ b. list_any (is_text text) (first_seen all_of) || b) new
      ∙ or_false (list_any (is_text text) (first_seen all_of)) ∙ any_fold text [] all_of

  kept_more : (some : List (List ℕ)) (text : List ℕ) → list_any (is_text text) some ≡ false
      → sighted schedule (kept_with some) text ≡ kept_with (some ++ text ∷ [])
  kept_more some text new =
      sighted_more schedule text (times_with some) (times_with (some ++ text ∷ [])) (fold seen_too (first_seen all_of) some)
      (distinct_fold (first_seen all_of) some (distinct_fold [] all_of tt))
      (λ other differs.
      let same : list_any (is_text other) (some ++ text ∷ []) ≡ list_any (is_text other) some =
      any_more other some text
      ∙ ap (λ b. list_any (is_text other) some || b) (nat_list_eq_equiv.symm other text ∙ differs)
      ∙ or_false (list_any (is_text other) some) in
      rw same)
      (λ known other is.
      let here : list_any (is_text other) (some ++ text ∷ []) ≡ true =
      any_more other some text
      ∙ ap (λ b. list_any (is_text other) some || b) (nat_list_eq_equiv.symm other text ∙ is)
      ∙ or_true (list_any (is_text other) some) in
      let before : list_any (is_text other) some ≡ false = sym (any_same text other some is) ∙ new in
      let all : list_any (is_text other) all_of ≡ true =
      sym (any_same text other all_of is) ∙ sym (any_known text some new) ∙ known in
      rw (here, before, all))
      (λ unknown.
      let here : list_any (is_text text) (some ++ text ∷ []) ≡ true =
      any_more text some text
      ∙ ap (λ b. list_any (is_text text) some || b) (nat_list_eq_equiv.refl text)
      ∙ or_true (list_any (is_text text) some) in
      let all : list_any (is_text text) all_of ≡ false = sym (any_known text some new) ∙ unknown in
      rw (here, all))
      ∙ ap (each_with (times_with (some ++ text ∷ []))) (sym (fold-append seen_too (first_seen all_of) some (text ∷ [])))

  kept_all : (some more : List (List ℕ)) → AreDistinct (some ++ more)
      → fold (sighted schedule) (kept_with some) more ≡ kept_with (some ++ more)
  kept_all some [] distinct = ap kept_with (sym (append-nil some))
  kept_all some (text ∷ more) distinct =
      ap (λ ss. fold (sighted schedule) ss more) (kept_more some text (not_before some text more distinct))
      ∙ kept_all (some ++ text ∷ []) more (subst AreDistinct (sym (append_assoc some (text ∷ []) more)) distinct)
      ∙ ap kept_with (append_assoc some (text ∷ []) more)

-- each distinct text of one list more is counted
pub sightings_on : (of : Searched → List (List ℕ)) (lists : List Searched) (one : Searched)
    → fold (sighted one.schedule) (sightings_in of lists) (first_seen (of one)) ≡ sightings_in of (lists ++ one ∷ [])
sightings_on of lists one =
    let own = first_seen (of one) in
    let keys : fold seen_too (first_seen (flat_map of lists)) own ≡ first_seen (flat_map of (lists ++ one ∷ [])) =
    fold_first (first_seen (flat_map of lists)) [] (of one)
    ∙ sym (fold-append seen_too [] (flat_map of lists) (of one))
    ∙ ap first_seen (ap (λ ts. flat_map of lists ++ ts) (sym (append-nil (of one))) ∙ sym (flat_map-append of lists (one ∷ []))) in
    let times : (text : List ℕ) → times_with of lists one.schedule own text ≡ times_in (has of text) (lists ++ one ∷ []) =
    λ text.
    ap (λ b. if b then (if list_any (is_text text) (flat_map of lists) then again (times_in (has of text) lists) else (1, one.schedule))
    else times_in (has of text) lists) (any_fold text [] (of one))
    ∙ ap (λ c. if has of text one then (if c then again (times_in (has of text) lists) else (1, one.schedule))
    else times_in (has of text) lists) (sym (any_flat of text lists))
    ∙ sym (times_on (has of text) lists one) in
    kept_all of lists one.schedule [] own (distinct_fold [] (of one) tt)
    ∙ each_same (times_with of lists one.schedule own) (λ text. times_in (has of text) (lists ++ one ∷ [])) times
    (fold seen_too (first_seen (flat_map of lists)) own)
    ∙ ap (each_with (λ text. times_in (has of text) (lists ++ one ∷ []))) keys
