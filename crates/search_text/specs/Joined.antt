-- What is found of lists and of later ones, joined; and what is found as plain data.
use Rattle.std.specs.Prelude.{◌≡◌, ◌+◌, ◌∷◌, [], ℕ, List, None, Option, Some, if◌then◌else◌, map}
use Rattle.report_text.specs.Groups.{is_text}
use Rattle.search_text.specs.SearchFindings.{resting}
use Rattle.search_text.specs.Times.{Sighting, Times}
use Rattle.search_text.specs.declared.found.SearchFindings.{SearchFindings}
use Rattle.search_text.specs.declared.joined.FindingsParts.{FindingsParts}
use Rattle.search_text.specs.declared.joined.SeenText.{SeenText}

-- in so many later lists too, where a count rests at its last value
abbrev pub later_too : Times → (later : ℕ) → Times
later_too times later = (resting (times.0 + later), times.1)

-- what is kept of something in lists and in later ones
abbrev pub both_seen : Option Times → (later : Option Times) → Option Times
both_seen None later = later
both_seen (Some times) None = Some times
both_seen (Some times) (Some later) = Some (later_too times later.0)

-- the sightings with one of later lists: a new text stands last
abbrev pub joined : List Sighting → (later : Sighting) → List Sighting
joined [] later = later ∷ []
joined (sighting ∷ more) later = if is_text later.0 sighting.0
    then (sighting.0, later_too sighting.1 later.1.0) ∷ more
    else sighting ∷ joined more later

-- the sighting that a text of plain data is
abbrev pub sightings_of : List SeenText → List Sighting
sightings_of texts = map (λ one. (one.text.items, one.seen)) texts

-- what is found, of plain data
abbrev pub found_in : FindingsParts → SearchFindings
found_in parts = record {
  reports = sightings_of parts.reports.items;
  known = parts.known;
  stuck = parts.stuck;
  states = sightings_of parts.states.items;
  searched = parts.searched;
  held = parts.held;
  failed = parts.failed;
}

-- the two say the same, wherever it lies in memory
pub record AreSameParts (parts others : FindingsParts) : Type 0 where
  pub reports : sightings_of parts.reports.items ≡ sightings_of others.reports.items
  pub known : parts.known.items ≡ others.known.items
  pub stuck : parts.stuck ≡ others.stuck
  pub states : sightings_of parts.states.items ≡ sightings_of others.states.items
  pub searched : parts.searched ≡ others.searched
  pub held : parts.held ≡ others.held
  pub failed : parts.failed ≡ others.failed
