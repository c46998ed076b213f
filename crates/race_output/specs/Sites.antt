-- The sites of a pair, as they are told of.
use Rattle.std.specs.Prelude.{◌≡◌, ◌↔◌, ℕ, Bool, Contains, List, None, slice_get, true, unwrap_or}
use Rattle.access_types.specs.Marked as marked
use Rattle.access_types.specs.declared.kind.Kind.TheVariants.{Plain}
use Rattle.access_types.specs.declared.kind.Operation.TheVariants.{Read}
use Rattle.executions.specs.execution.Run.{Run, task_of}
use Rattle.litmus_semantics.specs.Layout.{no_bytes}
use Rattle.litmus_semantics.specs.RunOfProgram.{setting_of}
use Rattle.litmus_semantics.specs.TextSites.{block_sites}
use Rattle.litmus_semantics.specs.declared.site.Site.{Site}
use Rattle.litmus_syntax.specs.declared.program.Variable.{Variable}
use Rattle.prepared_program.specs.declared.program_layout.layout.Layout.{Layout}
use Rattle.prepared_program.specs.program_layout.Lays.{Lays}
use Rattle.output_pieces.specs.Spots.{place_of}
use Rattle.output_pieces.specs.Variables.{variable_of}
use Rattle.race_output.specs.declared.sites.SiteTold.{SiteTold}
use Rattle.races.specs.Pairs.{HasSite, first_at}
use Rattle.races.specs.Verdicts.{how_marked}
use Rattle.races.specs.declared.pair.SiteName.{SiteName}
use Rattle.races.specs.declared.placed.PlacedSite.{PlacedSite}

-- a read of no bytes
abbrev pub no_site : Site
no_site = record { bytes = no_bytes; kind = Plain Read; mask = None; times = 0 }

-- the site of a name in the text of its task
abbrev pub site_in : Run → SiteName → Site
site_in run at =
    unwrap_or (slice_get (block_sites (setting_of run.program run.places at.task) (task_of run at.task).body) at.site) no_site

-- accesses at the site are plain writes that the machine makes in one piece
abbrev pub is_atomic_write : Site → Bool
is_atomic_write site = marked.is_atomic_write true (first_at (record { task = 0; site = 0 }) site)

-- These are the sites and the variables of the run, and the layout has these variables where they stand. Aligned plain
-- writes count as marked as they do in the run.
pub record AreSourcesOf (run : Run) (sites : List PlacedSite) (variables : List Variable) (layout : Layout) (plain_writes_atomic : Bool) : Type 0 where
  pub sites_are : (placed : PlacedSite) → Contains sites placed ↔ HasSite run placed.name placed.site
  pub variables_are : variables ≡ run.program.variables
  pub lays : Lays run.places variables layout
  pub atomic : plain_writes_atomic ≡ run.rules.plain_writes_atomic

-- a site as it is told of: its name, where it stands in the text, its kind, its variable, and how its accesses count as
-- marked where they do
unfoldable pub told_of : Run → (text : List ℕ) → (places : List (List ℕ)) → SiteName → SiteTold
told_of run text places at = record {
  task = at.task;
  site = at.site;
  at = place_of text places at;
  kind = (site_in run at).kind;
  variable = variable_of run.places run.program.variables (site_in run at).bytes;
  how = how_marked run.rules.plain_writes_atomic (first_at at (site_in run at));
}
