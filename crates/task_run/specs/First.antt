-- A task of a program under some settings.
use Rattle.std.specs.Prelude.{ℕ}
use Rattle.access_types.specs.Sites.{AccessMap}
use Rattle.litmus_syntax.specs.declared.program.Program.{Program}
use Rattle.prepared_program.specs.program_layout.Places.{places_of}
use Rattle.prepared_program.specs.program_sites.Settings.{rules_of}
use Rattle.prepared_program.specs.declared.program_sites.settings.Settings.{Settings}
use Rattle.program_order.specs.Standing.{Setting}

-- what the task of a number goes by, where tickets name these accesses
abbrev pub setting_of : Program → Settings → AccessMap → ℕ → Setting
setting_of program settings sites number = record {
  text = record { task = number; variables = program.variables; places = places_of settings.places.items };
  rules = rules_of settings;
  sites = sites;
}
