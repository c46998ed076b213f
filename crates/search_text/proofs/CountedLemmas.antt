-- The first lists with each text, and the counts of all lists.
use Rattle.std.proofs.Common.{◌≡◌, ◌+◌, ◌<◌, ◌∷◌, ◌∙◌, ℕ, zero, suc, List, [], Bool, Option, None, Some, true, false, add-one, ap, arith}
use Rattle.std.proofs.Common.{flat_map, get_or, if◌then◌else◌, length, map, refl, sym, take}
use Rattle.std.specs.Prelude.{count_by}
use Rattle.std.specs.List.{list_any}
use Rattle.std.specs.Option.{option_map}
use Rattle.report_text.specs.Groups.{first_seen, is_text}
use Rattle.search_text.proofs.FirstLists.{first_chosen, firsts_enough}
use Rattle.search_text.specs.Counted.{AreCountsOf, counts_of, with_count_at, with_counts}
use Rattle.search_text.specs.FirstLists.{First, KeepsFirst, KeepsFirstLists, deadlock_in, deadlocks_of, firsts_of}
use Rattle.search_text.specs.SearchFindings.{Finds, Searched, first_schedule, has, is_deadlocked, is_none, resting, seen_in, sightings_in, states_of, times_in}
use Rattle.search_text.specs.Texts.{End}
use Rattle.search_text.specs.Times.{Sighting, Times}
use Rattle.search_text.specs.declared.counted.ListCounts.{ListCounts}
use Rattle.search_text.specs.declared.found.SearchFindings.{SearchFindings}

-- there are as many
pub length_counted : (counts : List ℕ) (sightings : List Sighting) → length (with_counts counts sightings) ≡ length sightings
length_counted [] sightings = refl
length_counted (times ∷ counts) [] = refl
length_counted (times ∷ counts) (sighting ∷ more) = ap suc (length_counted counts more)

-- one count more
more_counts : (counts : List ℕ) (place : ℕ) (sightings : List Sighting) (d : ℕ) → place < length counts
    → with_count_at (with_counts (take place counts) sightings) place (get_or counts place d) ≡ with_counts (take (suc place) counts) sightings
more_counts [] place sightings d within = absurd (omega (arith, within))
more_counts (times ∷ counts) zero [] d within = refl
more_counts (times ∷ counts) zero (sighting ∷ more) d within = refl
more_counts (times ∷ counts) (suc place) [] d within = refl
more_counts (times ∷ counts) (suc place) (sighting ∷ more) d within =
    ap (λ rest. (sighting.0, (times, sighting.1.1)) ∷ rest) (more_counts counts place more d (omega (arith, within)))

pub one_count_more : (counts : List ℕ) (place : ℕ) (sightings before : List Sighting) (d : ℕ) → place < length counts
    → before ≡ with_counts (take place counts) sightings
    → with_count_at before place (get_or counts place d) ≡ with_counts (take (place + 1) counts) sightings
one_count_more counts place sightings before d within is =
    ap (λ all. with_count_at all place (get_or counts place d)) is
    ∙ more_counts counts place sightings d within
    ∙ ap (λ n. with_counts (take n counts) sightings) (sym (add-one place))

module _ (of : Searched → List (List ℕ)) (all : List Searched) where
  -- a text with how many of all lists have it
  abbrev counted_first : First → Sighting
  counted_first first = (first.0, (resting (count_by (has of first.0) all), first.1))

  each_counted : (texts : List (List ℕ))
      → map counted_first (firsts_of (map (λ text. (text, times_in (has of text) all)) texts)) ≡ map (λ text. (text, times_in (has of text) all)) texts
  each_counted [] = refl
  each_counted (text ∷ texts) = ap (λ rest. (text, times_in (has of text) all) ∷ rest) (each_counted texts)

  with_own : (sightings : List Sighting) → with_counts (counts_of of all sightings) sightings ≡ map counted_first (firsts_of sightings)
  with_own [] = refl
  with_own (sighting ∷ more) = ap (λ rest. counted_first (sighting.0, sighting.1.1) ∷ rest) (with_own more)

  -- the first lists with each text, with the counts of all, are what all lists show
  sightings_counted : (some : List Searched) (sightings : List Sighting) (counts : List ℕ) → KeepsFirst of [] all some
      → sightings ≡ sightings_in of some → counts ≡ counts_of of all sightings → with_counts counts sightings ≡ sightings_in of all
  sightings_counted some sightings counts keeps are told =
      ap (λ cs. with_counts cs sightings) told
      ∙ with_own sightings
      ∙ ap (λ ss. map counted_first (firsts_of ss)) are
      ∙ ap (map counted_first) (sym (firsts_enough of all some keeps))
      ∙ each_counted (first_seen (flat_map of all))

-- where not all tasks have ended is where there is the text of that
deadlock_told : (ending : Option End) → list_any (is_text []) (deadlock_in ending) ≡ is_none ending
deadlock_told None = refl
deadlock_told (Some end) = refl

tests_agree : has deadlocks_of [] ≡ is_deadlocked
tests_agree = λ i one. deadlock_told one.ending i

-- the first deadlock, with the count of all
stuck_counted : (all some : List Searched) (stuck : ℕ) → KeepsFirst deadlocks_of [] all some → stuck ≡ resting (count_by is_deadlocked all)
    → option_map {U = Times} (λ seen. (stuck, seen.1)) (seen_in is_deadlocked some) ≡ seen_in is_deadlocked all
stuck_counted all some stuck keeps told =
    by (list_any is_deadlocked some)
    ∙ ap (λ n. if list_any is_deadlocked some then Some (n, first_schedule is_deadlocked some) else None) told
    ∙ ap (λ s. if list_any is_deadlocked some then Some (resting (count_by is_deadlocked all), s) else None) (sym schedules)
    ∙ ap (λ b. if b then Some (times_in is_deadlocked all) else None) (sym there)
  where
    first : (list_any (has deadlocks_of []) all ≡ list_any (has deadlocks_of []) some)
        × (first_schedule (has deadlocks_of []) all ≡ first_schedule (has deadlocks_of []) some)
    first = first_chosen deadlocks_of [] [] all some keeps refl

    there : list_any is_deadlocked all ≡ list_any is_deadlocked some
    there = ap (λ test. list_any test all) (sym tests_agree) ∙ first.0 ∙ ap (λ test. list_any test some) tests_agree

    schedules : first_schedule is_deadlocked all ≡ first_schedule is_deadlocked some
    schedules = ap (λ test. first_schedule test all) (sym tests_agree) ∙ first.1 ∙ ap (λ test. first_schedule test some) tests_agree

    by : (b : Bool) → option_map {U = Times} (λ seen. (stuck, seen.1)) (if b then Some (times_in is_deadlocked some) else None)
        ≡ (if b then Some (stuck, first_schedule is_deadlocked some) else None)
    by true = refl
    by false = refl

pub finds_counted : (all some : List Searched) (old new : SearchFindings) (counts : ListCounts) → Finds some old
    → KeepsFirstLists (λ one. one) all some → AreCountsOf all old counts
    → new.reports ≡ with_counts counts.reports.items old.reports
    → new.stuck ≡ option_map {U = Times} (λ seen. (counts.stuck, seen.1)) old.stuck
    → new.states ≡ with_counts counts.states.items old.states
    → new.searched ≡ counts.searched → new.held ≡ counts.held → new.failed ≡ counts.failed
    → Finds all new
finds_counted all some old new counts finds keeps are reports stuck states searched held failed = record {
  reports = reports ∙ sightings_counted (λ one. one.texts) all some old.reports counts.reports.items keeps.reports finds.reports are.reports;
  stuck = stuck ∙ ap (option_map {U = Times} (λ seen. (counts.stuck, seen.1))) finds.stuck ∙ stuck_counted all some counts.stuck keeps.deadlocks are.stuck;
  states = states ∙ sightings_counted states_of all some old.states counts.states.items keeps.states finds.states are.states;
  searched = searched ∙ are.searched;
  held = held ∙ are.held;
  failed = failed ∙ are.failed;
}
