-- The output of a litmus text, with where its sites stand.
use Rattle.std.specs.Prelude.{◌≡◌, ◌↔◌, ℕ, AllPairs, Contains, List, map}
use Rattle.access_types.specs.Sites.{AccessMap}
use Rattle.litmus_parse.specs.Read.{IsReadAs}
use Rattle.litmus_syntax.specs.declared.program.Program.{Program}
use Rattle.prepared_program.specs.declared.program_sites.settings.Settings.{Settings}
use Rattle.prepared_program.specs.program_layout.Places.{places_of}
use Rattle.races.specs.Pairs.{HasSite, run_with}
use Rattle.races.specs.Placed.{PlacedBefore}
use Rattle.races.specs.declared.placed.PlacedSite.{PlacedSite}
use Rattle.source_places.specs.Lines.{located}
use Rattle.source_places.specs.Sites.{site_place}

-- The output of the program of a text, with where the site stands behind each line that names one. Where the access of a
-- site begins in the text no definition says.
pub record IsLocatedIn (program : Program) (file text : List ℕ) (settings : Settings) (output found : List ℕ) : Type 0 where
  pub accesses : AccessMap
  -- the sites of the program, each once
  pub sites : List PlacedSite
  pub sites_are : (placed : PlacedSite) → Contains sites placed ↔ HasSite (run_with program settings accesses) placed.name placed.site
  pub order : AllPairs PlacedBefore sites
  pub begins : List (List ℕ)
  pub found_is : found
      ≡ located (map (site_place (places_of settings.places.items) program.variables file text begins) sites) output

-- so it is of the program that the text is read as
pub record IsLocated (file text : List ℕ) (settings : Settings) (output found : List ℕ) : Type 0 where
  pub program : Program
  pub read : IsReadAs text program
  pub is : IsLocatedIn program file text settings output found
