-- A program that is made ready for its runs under some settings.
use Rattle.std.specs.Prelude.{◌≡◌, ◌≤◌, ◌<◌, ◌^◌, count_by, map}
use Rattle.std.specs.Arc.{arc_value}
use Rattle.access_types.specs.Sites.{AccessMap}
use Rattle.litmus_syntax.specs.Views.{program_of}
use Rattle.litmus_syntax.specs.declared.program.Program.{Program}
use Rattle.prepared_program.specs.program_layout.Lays.{Lays, is_lock}
use Rattle.prepared_program.specs.program_layout.Places.{AreFit, places_of}
use Rattle.litmus_semantics.specs.Layout.{cells_at_first, cells_of}
use Rattle.prepared_program.specs.program_sites.Accesses.{begun_by}
use Rattle.prepared_program.specs.program_sites.Sites.{AreSitesOf}
use Rattle.prepared_program.specs.program_sites.Settings.{rules_of}
use Rattle.prepared_program.specs.declared.program_sites.prepared.Prepared.{Prepared}
use Rattle.prepared_program.specs.declared.program_sites.settings.Settings.{Settings}

-- the accesses by ticket
abbrev pub sites_in : Prepared → AccessMap
sites_in prepared = arc_value prepared.sites

-- The settings suit the program: there are page slots, waits have an end, and places are fit for its variables. Its
-- variables stand there, in these cells, which hold at first what they do; these are its locks, and the accesses that
-- it can make, so many of each task; and checks go by these rules.
pub record IsPrepared (program : Program) (settings : Settings) (prepared : Prepared) : Type 0 where
  pub some_slots : 3 ≤ settings.slots
  pub few_slots : settings.slots ≤ 1024
  pub turns : settings.turns < 2 ^ 64
  pub fit : AreFit program.variables settings.places.items
  pub lays : Lays (places_of settings.places.items) program.variables (arc_value prepared.layout)
  pub locks : prepared.locks ≡ count_by is_lock program.variables
  pub cells : prepared.cells.items ≡ cells_of (places_of settings.places.items) program.variables
  pub words : prepared.words.items ≡ cells_at_first (places_of settings.places.items) program.variables
  pub sites : AreSitesOf (program_of program) (places_of settings.places.items) (sites_in prepared)
  pub accesses : prepared.accesses.items ≡ map begun_by (program_of program).tasks
  pub rules : prepared.rules ≡ rules_of settings

-- so it is under some settings
abbrev pub IsReady : Program → Prepared → Type 0
IsReady program prepared = (settings : Settings) × IsPrepared program settings prepared
