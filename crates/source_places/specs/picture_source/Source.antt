-- What the text of a program says of a trace.
use Rattle.std.specs.Global.{Global}
use Rattle.std.specs.Prelude.{◌≡◌, ◌↔◌, [], ℕ, AllPairs, Contains, List, MatchOption, Option, Vec, false, map, true}
use Rattle.access_types.specs.Sites.{AccessMap}
use Rattle.litmus_syntax.specs.declared.program.Program.{Program}
use Rattle.prepared_program.specs.declared.program_sites.settings.Settings.{Settings}
use Rattle.prepared_program.specs.program_layout.Places.{places_of}
use Rattle.races.specs.Pairs.{HasSite, run_with}
use Rattle.races.specs.Placed.{PlacedBefore}
use Rattle.races.specs.declared.placed.PlacedSite.{PlacedSite}
use Rattle.timeline.specs.declared.picture.labels.Label.{Label}
use Rattle.timeline.specs.declared.picture.rows.Row.{Row}
use Rattle.source_places.specs.picture_source.Fit.{fits}
use Rattle.source_places.specs.picture_source.Labels.{said_by, site_says}

-- What the text of a program says of a trace with these rows: nothing, where the accesses of the program's sites can't be
-- those of the trace; else of each site its variable and its statement. Where the access of a site begins in the text no
-- definition says.
pub record AreLabelsIn (program : Program) (text : List ℕ) (rows : List Row) (labels : Option (Vec Label Global)) : Type 0 where
  pub settings : Settings
  pub unplaced : settings.places.items ≡ []
  pub accesses : AccessMap
  -- the sites of the program, each once
  pub sites : List PlacedSite
  pub sites_are : (placed : PlacedSite) → Contains sites placed ↔ HasSite (run_with program settings accesses) placed.name placed.site
  pub order : AllPairs PlacedBefore sites
  pub begins : List (List ℕ)
  pub found : MatchOption labels (fits sites rows ≡ false)
      (λ own. (fits sites rows ≡ true)
      × (map said_by own.items ≡ map (site_says (places_of settings.places.items) program.variables text begins) sites))
