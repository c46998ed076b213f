-- How many of all lists have what is found of the first ones.
use Rattle.std.specs.Prelude.{◌≡◌, ◌∷◌, [], ℕ, List, count_by, length, map, suc, zero}
use Rattle.search_text.specs.SearchFindings.{Searched, fails, has, is_deadlocked, meets, resting, states_of}
use Rattle.search_text.specs.Times.{Sighting}
use Rattle.search_text.specs.declared.counted.ListCounts.{ListCounts}
use Rattle.search_text.specs.declared.found.SearchFindings.{SearchFindings}

-- how many of the lists have each of these texts, in their order
abbrev pub counts_of : (Searched → List (List ℕ)) → List Searched → List Sighting → List ℕ
counts_of of lists sightings = map (λ sighting. resting (count_by (has of sighting.0) lists)) sightings

-- How many of the lists have each report and each final state of what is found, in their order; after how many of them
-- not all tasks have ended; how many there are; and in how many whole ones the proposition holds, and doesn't.
pub record AreCountsOf (lists : List Searched) (found : SearchFindings) (counts : ListCounts) : Type 0 where
  pub reports : counts.reports.items ≡ counts_of (λ one. one.texts) lists found.reports
  pub stuck : counts.stuck ≡ resting (count_by is_deadlocked lists)
  pub states : counts.states.items ≡ counts_of states_of lists found.states
  pub searched : counts.searched ≡ resting (length lists)
  pub held : counts.held ≡ resting (count_by meets lists)
  pub failed : counts.failed ≡ resting (count_by fails lists)

-- the sightings, where one at this place is in so many lists
abbrev pub with_count_at : List Sighting → (place times : ℕ) → List Sighting
with_count_at [] place times = []
with_count_at (sighting ∷ more) zero times = (sighting.0, (times, sighting.1.1)) ∷ more
with_count_at (sighting ∷ more) (suc place) times = sighting ∷ with_count_at more place times

-- the sightings, each in so many lists as these counts say in their order, as far as there are counts
abbrev pub with_counts : (counts : List ℕ) → List Sighting → List Sighting
with_counts [] sightings = sightings
with_counts (times ∷ counts) [] = []
with_counts (times ∷ counts) (sighting ∷ more) = (sighting.0, (times, sighting.1.1)) ∷ with_counts counts more
