-- What is found of lists, joined with what is found of later ones, is found of both.
use Rattle.std.proofs.Common.{◌≡◌, ◌+◌, ◌++◌, ◌∷◌, ◌∙◌, ℕ, List, [], Bool, Option, None, Some, true, false, ap, append_assoc, append-nil, arith}
use Rattle.std.proofs.Common.{cond, fold, if◌then◌else◌, is_some, length, length-append, map, position, refl, slice_get, sym, Vec, Global}
use Rattle.std.specs.Prelude.{count_by}
use Rattle.std.specs.List.{list_any}
use Rattle.std.specs.Map.{keys_of, lookup, values_of}
use Rattle.std.proofs.lemmas.Cmp.{nat_list_eq_equiv}
use Rattle.std.proofs.lemmas.List.{map-append}
use Rattle.std.proofs.lemmas.List.Sums.{fold-append, sum_by-append}
use Rattle.indexmap.specs.IndexMap.{insert_entry, set_value_at}
use Rattle.indexmap.proofs.MapLemmas.{Found-position, insert_entry-first}
use Rattle.access_types.specs.Sites.{AccessMap}
use Rattle.access_types.specs.declared.report.Report.{Report}
use Rattle.report_text.specs.Groups.{first_seen, is_text, one_more, seen_too}
use Rattle.report_text.specs.ReportOf.{report_text}
use Rattle.search_text.proofs.FirstLists.{all_sighted, sightings_fold}
use Rattle.search_text.proofs.KnownReports.{texts_found}
use Rattle.search_text.proofs.Shown.{Entry, is_key, shown}
use Rattle.search_text.proofs.SightingLemmas.{seen_on}
use Rattle.search_text.proofs.TextLists.{fold_first}
use Rattle.search_text.specs.Joined.{AreSameParts, both_seen, found_in, joined, later_too, sightings_of}
use Rattle.search_text.specs.SearchFindings.{AreKnown, Finds, Searched, fails, is_deadlocked, meets, option_again, resting, seen_in, sightings_in, states_of}
use Rattle.search_text.specs.Seen.{again, sighted}
use Rattle.search_text.specs.Times.{Sighting, Times}
use Rattle.search_text.specs.declared.found.SearchFindings.{SearchFindings}
use Rattle.search_text.specs.declared.joined.FindingsParts.{FindingsParts}
use Rattle.search_text.specs.declared.joined.SeenText.{SeenText}
use Rattle.prepared_program.specs.declared.step_schedule.schedule.Entry as schedules

-- two counts that rest, added
resting_both : (n m : ℕ) → resting (resting n + resting m) ≡ resting (n + m)
resting_both n m = omega arith

-- one more of the later ones, or of the first, is one more of both
one_later : (n m : ℕ) → resting (n + one_more m) ≡ one_more (resting (n + m))
one_later n m = omega arith

one_before : (n m : ℕ) → resting (one_more n + m) ≡ one_more (resting (n + m))
one_before n m = omega arith

-- the text is one of those that were seen
abbrev knows : List ℕ → List Sighting → Bool
knows text all = list_any (λ (sighting : Sighting). is_text text sighting.0) all

-- A text of one list more, which is among these lists or among later ones.
module _ (schedule : List schedules.Entry) (text : List ℕ) where
  -- a new one
  joined_new : (all : List Sighting) → joined all (text, (1, schedule)) ≡ sighted schedule all text
  joined_new [] = refl
  joined_new (one ∷ more) = ap (λ (ss : List Sighting). if is_text text one.0 then (one.0, again one.1) ∷ more else one ∷ ss) (joined_new more)

  -- one that the later ones have
  joined_again : (all : List Sighting) (key : List ℕ) (times : Times) → is_text text key ≡ true
      → joined all (key, again times) ≡ sighted schedule (joined all (key, times)) text
  joined_again [] key times is = rw is refl
  joined_again (one ∷ more) key times is = by (is_text key one.0) refl (joined_again more key times is)
    where
      same : is_text text one.0 ≡ is_text key one.0
      same = nat_list_eq_equiv.congr text key one.0 is

      by : (b : Bool) → is_text key one.0 ≡ b → joined more (key, again times) ≡ sighted schedule (joined more (key, times)) text
          → joined (one ∷ more) (key, again times) ≡ sighted schedule (joined (one ∷ more) (key, times)) text
      by true p rest =
          let own = same ∙ p in
          rw (p, own) (ap (λ (n : ℕ). (one.0, (n, one.1.1)) ∷ more) (one_later one.1.0 times.0))
      by false p rest =
          let own = same ∙ p in
          rw (p, own) (ap (λ (ss : List Sighting). one ∷ ss) rest)

  -- one that these have
  joined_sighted : (all : List Sighting) (later : Sighting) → knows text all ≡ true
      → joined (sighted schedule all text) later ≡ sighted schedule (joined all later) text
  joined_sighted [] later known = cc
  joined_sighted (one ∷ more) later known = by (is_text text one.0) refl (is_text later.0 one.0) refl (joined_sighted more later)
    where
      by : (b : Bool) → is_text text one.0 ≡ b → (c : Bool) → is_text later.0 one.0 ≡ c
          → (knows text more ≡ true → joined (sighted schedule more text) later ≡ sighted schedule (joined more later) text)
          → joined (sighted schedule (one ∷ more) text) later ≡ sighted schedule (joined (one ∷ more) later) text
      by true p true q rest = rw (p, q, p) (ap (λ (n : ℕ). (one.0, (n, one.1.1)) ∷ more) (one_before one.1.0 later.1.0))
      by true p false q rest = rw (p, q, p) refl
      by false p true q rest = rw (p, q, p) refl
      by false p false q rest = rw (p, q, p) (ap (λ (ss : List Sighting). one ∷ ss) (rest (rw p at known)))

  -- it stays known
  knows_own : (all : List Sighting) (key : List ℕ) (times : Times) → is_text text key ≡ true → knows text (joined all (key, times)) ≡ true
  knows_own [] key times is = rw is refl
  knows_own (one ∷ more) key times is = by (is_text key one.0) refl (is_text text one.0) refl (knows_own more key times is)
    where
      same : is_text text one.0 ≡ is_text key one.0
      same = nat_list_eq_equiv.congr text key one.0 is

      by : (b : Bool) → is_text key one.0 ≡ b → (c : Bool) → is_text text one.0 ≡ c → knows text (joined more (key, times)) ≡ true
          → knows text (joined (one ∷ more) (key, times)) ≡ true
      by true p c q rest = let own = same ∙ p in rw (p, own) refl
      by false p true q rest = rw (p, q) refl
      by false p false q rest = rw (p, q) rest

  knows_still : (all : List Sighting) (later : Sighting) → knows text all ≡ true → knows text (joined all later) ≡ true
  knows_still [] later known = cc
  knows_still (one ∷ more) later known = by (is_text later.0 one.0) refl (is_text text one.0) refl (knows_still more later)
    where
      by : (b : Bool) → is_text later.0 one.0 ≡ b → (c : Bool) → is_text text one.0 ≡ c
          → (knows text more ≡ true → knows text (joined more later) ≡ true) → knows text (joined (one ∷ more) later) ≡ true
      by true p c q rest = rw p known
      by false p true q rest = rw (p, q) refl
      by false p false q rest = rw (p, q) (rest (rw q at known))

  fold_sighted : (all later : List Sighting) → knows text all ≡ true
      → fold joined (sighted schedule all text) later ≡ sighted schedule (fold joined all later) text
  fold_sighted all [] known = refl
  fold_sighted all (one ∷ later) known =
      ap (λ ss. fold joined ss later) (joined_sighted all one known)
      ∙ fold_sighted (joined all one) later (knows_still all one known)

  -- whichever of the later ones has it
  fold_then : (all later : List Sighting) → fold joined all (sighted schedule later text) ≡ sighted schedule (fold joined all later) text
  fold_then all [] = joined_new all
  fold_then all (one ∷ later) = by (is_text text one.0) refl (fold_then (joined all one) later)
    where
      by : (b : Bool) → is_text text one.0 ≡ b
          → fold joined (joined all one) (sighted schedule later text) ≡ sighted schedule (fold joined (joined all one) later) text
          → fold joined all (sighted schedule (one ∷ later) text) ≡ sighted schedule (fold joined all (one ∷ later)) text
      by true p rest = rw p (
          ap (λ ss. fold joined ss later) (joined_again all one.0 one.1 p)
          ∙ fold_sighted (joined all one) later (knows_own all one.0 one.1 p))
      by false p rest = rw p rest

-- the texts of one list more, and those of more lists
then_texts : (schedule : List schedules.Entry) (all later : List Sighting) (texts : List (List ℕ))
    → fold joined all (fold (sighted schedule) later texts) ≡ fold (sighted schedule) (fold joined all later) texts
then_texts schedule all later [] = refl
then_texts schedule all later (text ∷ texts) =
    then_texts schedule all (sighted schedule later text) texts
    ∙ ap (λ ss. fold (sighted schedule) ss texts) (fold_then schedule text all later)

then_lists : (of : Searched → List (List ℕ)) (all later : List Sighting) (lists : List Searched)
    → fold joined all (fold (all_sighted of) later lists) ≡ fold (all_sighted of) (fold joined all later) lists
then_lists of all later [] = refl
then_lists of all later (one ∷ lists) =
    then_lists of all (all_sighted of later one) lists
    ∙ ap (λ ss. fold (all_sighted of) ss lists) (then_texts one.schedule all later (first_seen (of one)))

pub sightings_joined : (of : Searched → List (List ℕ)) (lists more : List Searched)
    → fold joined (sightings_in of lists) (sightings_in of more) ≡ sightings_in of (lists ++ more)
sightings_joined of lists more =
    ap (fold joined (sightings_in of lists)) (sym (sightings_fold of [] more))
    ∙ then_lists of (sightings_in of lists) [] more
    ∙ sightings_fold of lists more

-- What passes a test, of lists and of later ones.
module _ (test : Searched → Bool) where
  abbrev step : Option Times → Searched → Option Times
  step seen one = if test one then option_again one.schedule seen else seen

  seen_fold : (lists more : List Searched) → fold step (seen_in test lists) more ≡ seen_in test (lists ++ more)
  seen_fold lists [] = ap (seen_in test) (sym (append-nil lists))
  seen_fold lists (one ∷ more) =
      ap (λ seen. fold step seen more) (sym (seen_on test lists one))
      ∙ seen_fold (lists ++ one ∷ []) more
      ∙ ap (seen_in test) (append_assoc lists (one ∷ []) more)

  both_again : (schedule : List schedules.Entry) (seen later : Option Times)
      → both_seen seen (option_again schedule later) ≡ option_again schedule (both_seen seen later)
  both_again schedule None later = refl
  both_again schedule (Some times) None = refl
  both_again schedule (Some times) (Some later) = ap (λ (n : ℕ). Some (n, times.1)) (one_later times.0 later.0)

  both_step : (seen later : Option Times) (one : Searched) → both_seen seen (step later one) ≡ step (both_seen seen later) one
  both_step seen later one = by (test one)
    where
      by : (b : Bool) → both_seen seen (if b then option_again one.schedule later else later)
          ≡ (if b then option_again one.schedule (both_seen seen later) else both_seen seen later)
      by true = both_again one.schedule seen later
      by false = refl

  both_fold : (seen later : Option Times) (lists : List Searched)
      → both_seen seen (fold step later lists) ≡ fold step (both_seen seen later) lists
  both_fold seen later [] = refl
  both_fold seen later (one ∷ lists) =
      both_fold seen (step later one) lists ∙ ap (λ s. fold step s lists) (both_step seen later one)

  both_none : (seen : Option Times) → both_seen seen None ≡ seen
  both_none None = refl
  both_none (Some times) = refl

  seen_joined : (lists more : List Searched) → both_seen (seen_in test lists) (seen_in test more) ≡ seen_in test (lists ++ more)
  seen_joined lists more =
      ap (both_seen (seen_in test lists)) (sym (seen_fold [] more))
      ∙ both_fold (seen_in test lists) None more
      ∙ ap (λ seen. fold step seen more) (both_none (seen_in test lists))
      ∙ seen_fold lists more

  count_joined : (lists more : List Searched)
      → resting (resting (count_by test lists) + resting (count_by test more)) ≡ resting (count_by test (lists ++ more))
  count_joined lists more =
      resting_both (count_by test lists) (count_by test more)
      ∙ ap resting (sym (sum_by-append (λ (one : Searched). cond (test one) 1 0) lists more))

pub finds_joined : (lists more : List Searched) (old later new : SearchFindings) → Finds lists old → Finds more later
    → new.reports ≡ fold joined old.reports later.reports
    → new.stuck ≡ both_seen old.stuck later.stuck
    → new.states ≡ fold joined old.states later.states
    → new.searched ≡ resting (old.searched + later.searched)
    → new.held ≡ resting (old.held + later.held)
    → new.failed ≡ resting (old.failed + later.failed)
    → Finds (lists ++ more) new
finds_joined lists more old later new first second reports stuck states searched held failed = record {
  reports = reports ∙ ap (λ all. fold joined all later.reports) first.reports
      ∙ ap (fold joined (sightings_in (λ one. one.texts) lists)) second.reports ∙ sightings_joined (λ one. one.texts) lists more;
  stuck = stuck ∙ ap (λ seen. both_seen seen later.stuck) first.stuck
      ∙ ap (both_seen (seen_in is_deadlocked lists)) second.stuck ∙ seen_joined is_deadlocked lists more;
  states = states ∙ ap (λ all. fold joined all later.states) first.states
      ∙ ap (fold joined (sightings_in states_of lists)) second.states ∙ sightings_joined states_of lists more;
  searched = searched ∙ ap (λ n. resting (n + later.searched)) first.searched
      ∙ ap (λ n. resting (resting (length lists) + n)) second.searched
      ∙ resting_both (length lists) (length more) ∙ ap resting (sym (length-append lists more));
  held = held ∙ ap (λ n. resting (n + later.held)) first.held
      ∙ ap (λ n. resting (resting (count_by meets lists) + n)) second.held ∙ count_joined meets lists more;
  failed = failed ∙ ap (λ n. resting (n + later.failed)) first.failed
      ∙ ap (λ n. resting (resting (count_by fails lists) + n)) second.failed ∙ count_joined fails lists more;
}

-- the texts of both, in the order in which they are first met
joined_texts : (all : List Sighting) (later : Sighting) → texts_found (joined all later) ≡ seen_too (texts_found all) later.0
joined_texts [] later = refl
joined_texts (one ∷ more) later = by (is_text later.0 one.0) refl (joined_texts more later)
  where
    behind : (b : Bool) → one.0 ∷ (if b then texts_found more else texts_found more ++ later.0 ∷ [])
        ≡ (if b then one.0 ∷ texts_found more else one.0 ∷ texts_found more ++ later.0 ∷ [])
    behind true = refl
    behind false = refl

    by : (b : Bool) → is_text later.0 one.0 ≡ b → texts_found (joined more later) ≡ seen_too (texts_found more) later.0
        → texts_found (joined (one ∷ more) later) ≡ seen_too (texts_found (one ∷ more)) later.0
    by true p rest = rw p refl
    by false p rest = rw p (ap (λ ts. one.0 ∷ ts) rest ∙ behind (list_any (is_text later.0) (texts_found more)))

fold_texts : (all later : List Sighting) → texts_found (fold joined all later) ≡ fold seen_too (texts_found all) (texts_found later)
fold_texts all [] = refl
fold_texts all (one ∷ later) =
    fold_texts (joined all one) later ∙ ap (λ ts. fold seen_too ts (texts_found later)) (joined_texts all one)

pub known_joined : (sites : AccessMap) (old later : List Sighting) (known more : List Report)
    → texts_found old ≡ first_seen (map (report_text sites) known)
    → texts_found later ≡ first_seen (map (report_text sites) more)
    → texts_found (fold joined old later) ≡ first_seen (map (report_text sites) (known ++ more))
known_joined sites old later known more first second =
    let before = map (report_text sites) known in
    let behind = map (report_text sites) more in
    fold_texts old later
    ∙ ap (λ ts. fold seen_too ts (texts_found later)) first
    ∙ ap (fold seen_too (first_seen before)) second
    ∙ fold_first (first_seen before) [] behind
    ∙ sym (fold-append seen_too [] before behind)
    ∙ ap first_seen (sym (map-append (report_text sites) known more))

-- a text of later lists, in the map and among the sightings
joined_is : (entries : List Entry) (key : Vec ℕ Global) (times later : Times)
    → Some times ≡ both_seen (lookup (is_key key) entries) (Some later)
    → shown (insert_entry is_key entries key times) ≡ joined (shown entries) (key.items, later)
joined_is [] key times later e = ap (λ t. (key.items, t) ∷ []) (let is : times ≡ later = cc in is)
joined_is (entry ∷ entries) key times later e =
    by (is_key key entry.0) refl (λ p. joined_is entries key times later (rw p at e))
  where
    by : (b : Bool) → is_key key entry.0 ≡ b
        → (is_key key entry.0 ≡ false → shown (insert_entry is_key entries key times) ≡ joined (shown entries) (key.items, later))
        → shown (insert_entry is_key (entry ∷ entries) key times) ≡ joined (shown (entry ∷ entries)) (key.items, later)
    by true p rest =
        let here : Some times ≡ Some (later_too entry.1 later.0) = rw p at e in
        let is : times ≡ later_too entry.1 later.0 = cc in
        rw p (ap (λ t. (entry.0.items, t) ∷ shown entries) is)
    by false p rest = rw p (ap (λ ss. (entry.0.items, entry.1) ∷ ss) (rest p))

-- the same of a text that stands at a place
pub joined_at : (entries : List Entry) (key : Vec ℕ Global) (at : ℕ) (times later : Times)
    → position (is_key key) (keys_of entries) ≡ Some at → slice_get (values_of entries) at ≡ Some times
    → shown (set_value_at entries at (later_too times later.0)) ≡ joined (shown entries) (key.items, later)
joined_at entries key at times later p value =
    let found = Found-position (is_key key) entries at p in
    ap shown (sym (insert_entry-first is_key key (later_too times later.0) entries at found.first))
    ∙ joined_is entries key (later_too times later.0) later (sym (ap (λ seen. both_seen seen (Some later)) (found.value ∙ value)))

-- and of a new one
pub joined_last : (entries : List Entry) (key : Vec ℕ Global) (later : Times) → is_some (lookup (is_key key) entries) ≡ false
    → shown (insert_entry is_key entries key later) ≡ joined (shown entries) (key.items, later)
joined_last entries key later none = joined_is entries key later later (by (lookup (is_key key) entries) none)
  where
    by : (found : Option Times) → is_some found ≡ false → Some later ≡ both_seen found (Some later)
    by None e = refl
    by (Some other) e = cc

-- what says the same is found of the same lists
pub same_found : (lists : List Searched) (parts others : FindingsParts) → AreSameParts parts others
    → Finds lists (found_in parts) → Finds lists (found_in others)
same_found lists parts others same finds = record {
  reports = sym same.reports ∙ finds.reports;
  stuck = sym same.stuck ∙ finds.stuck;
  states = sym same.states ∙ finds.states;
  searched = sym same.searched ∙ finds.searched;
  held = sym same.held ∙ finds.held;
  failed = sym same.failed ∙ finds.failed;
}

pub same_known : (sites : AccessMap) (parts others : FindingsParts) → AreSameParts parts others
    → AreKnown sites (found_in parts) → AreKnown sites (found_in others)
same_known sites parts others same are =
    ap texts_found (sym same.reports) ∙ are ∙ ap (λ all. first_seen (map (report_text sites) all)) same.known

-- one text more of a map is moved out
pub one_moved : (texts : List SeenText) (one : SeenText) (before after : List Entry) (all : List Sighting)
    → before ≡ (one.text, one.seen) ∷ after → sightings_of texts ++ shown before ≡ all
    → sightings_of (texts ++ one ∷ []) ++ shown after ≡ all
one_moved texts one before after all e h =
    ap (λ ss. ss ++ shown after) (map-append (λ (text : SeenText). (text.text.items, text.seen)) texts (one ∷ []))
    ∙ append_assoc (sightings_of texts) ((one.text.items, one.seen) ∷ []) (shown after)
    ∙ ap (λ es. sightings_of texts ++ shown es) (sym e) ∙ h
