-- The worst verdict on the sites that begin at each place of a text.
use Rattle.std.specs.Prelude.{◌≡◌, ◌==◌, ◌<◌, ℕ, Bool, List, None, Option, Some, false, fold, if◌then◌else◌, length}
use Rattle.std.specs.Prelude.{slice_index_or}
use Rattle.race_output.specs.Words.{said_of}
use Rattle.race_output.specs.declared.sites.SiteTold.{SiteTold}
use Rattle.race_output.specs.declared.words.Said.{Said}
use Rattle.race_page.specs.Verdicts.{worse}
use Rattle.race_page.specs.declared.values.PairTold.{PairTold}

-- the place is this one
abbrev pub is_at : Option ℕ → ℕ → Bool
is_at None at = false
is_at (Some place) at = place == at

-- the mark at a place, with a verdict on a site more: the worse one, if the site begins there
abbrev pub with_site : SiteTold → Said → (at : ℕ) → Option Said → Option Said
with_site site said at so_far = if is_at site.at at then Some (worse so_far said) else so_far

-- the same with a pair more
abbrev pub with_pair : (at : ℕ) → Option Said → PairTold → Option Said
with_pair at so_far one =
    with_site one.second (said_of one.verdict) at (with_site one.first (said_of one.verdict) at so_far)

-- the mark at a place: the worst verdict on a pair of which a site begins there, if there is one
abbrev pub mark_at : List PairTold → (at : ℕ) → Option Said
mark_at pairs at = fold (with_pair at) None pairs

-- these are the marks at the places of a text of so many bytes
pub record AreMarks (pairs : List PairTold) (len : ℕ) (marks : List (Option Said)) : Type 0 where
  pub all : length marks ≡ len
  pub each : (at : ℕ) → at < len → slice_index_or marks at None ≡ mark_at pairs at
