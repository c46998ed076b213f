-- Pairs of sites whose accesses conflict, by the text of a program and the places of its variables.
use Rattle.std.specs.Prelude.{◌≡◌, ◌<◌, Some, slice_get}
use Rattle.access_types.specs.Access.{Access, Breaks, Overlap}
use Rattle.access_types.specs.Sites.{AccessMap}
use Rattle.executions.specs.execution.Run.{IsOfProgram, Run, task_of}
use Rattle.litmus_semantics.specs.RunOfProgram.{setting_of}
use Rattle.litmus_semantics.specs.TextSites.{access_at, block_sites}
use Rattle.litmus_semantics.specs.declared.site.Site.{Site}
use Rattle.litmus_syntax.specs.Views.{program_of}
use Rattle.litmus_syntax.specs.declared.program.Program.{Program}
use Rattle.prepared_program.specs.declared.program_sites.settings.Settings.{Settings}
use Rattle.prepared_program.specs.program_layout.Places.{places_of}
use Rattle.prepared_program.specs.program_sites.Settings.{rules_of}
use Rattle.races.specs.declared.pair.SiteName.{SiteName}
use Rattle.races.specs.declared.pair.SitePair.{SitePair}

-- The run of a program under these settings, where tickets name these accesses. `run_of` of litmus_step is the same
-- record; this crate doesn't depend on that one.
abbrev pub run_with : Program → Settings → AccessMap → Run
run_with program settings sites = record {
  program = program_of program;
  places = places_of settings.places.items;
  rules = rules_of settings;
  sites = sites;
}

-- the text of the task has this site, reached or not
pub record HasSite (run : Run) (at : SiteName) (site : Site) : Type 0 where
  pub there : slice_get (block_sites (setting_of run.program run.places at.task) (task_of run at.task).body) at.site ≡ Some site

-- the first access at a site: its bytes and its kind are those of each repetition
abbrev pub first_at : SiteName → Site → Access
first_at at site = access_at at.task at.site site 0

-- Accesses at the two sites share a byte, and one of the two writes or asserts that nobody accesses. So it is by the
-- text and the places alone: whether a site is ever reached doesn't matter, nor does the repetition.
pub record Conflicts (run : Run) (pair : SitePair) : Type 0 where
  pub order : pair.first.task < pair.second.task
  pub first : Site
  pub second : Site
  pub first_there : HasSite run pair.first first
  pub second_there : HasSite run pair.second second
  pub overlap : Overlap (first_at pair.first first) (first_at pair.second second)
  pub breaks : Breaks (first_at pair.first first) (first_at pair.second second)

-- the access is one of the program, at this site
pub record IsAt (run : Run) (at : SiteName) (a : Access) : Type 0 where
  pub is : IsOfProgram run a
  pub task : a.task ≡ at.task
  pub site : a.site ≡ at.site

-- two accesses at the sites of the pair, which conflict
pub record AreOf (run : Run) (pair : SitePair) (first second : Access) : Type 0 where
  pub first_is : IsAt run pair.first first
  pub second_is : IsAt run pair.second second
  pub overlap : Overlap first second
  pub breaks : Breaks first second
