-- What a program is run under, as the options ask for it.
use Rattle.std.specs.Global.{Global}
use Rattle.std.specs.Prelude.{◌≡◌, Vec}
use Rattle.cli.specs.Bounds.{KeepsBounds}
use Rattle.cli.specs.declared.request.RunOptions.{RunOptions}
use Rattle.prepared_program.specs.place_list.Spelling as places
use Rattle.prepared_program.specs.declared.program_layout.place.Place.{Place}
use Rattle.prepared_program.specs.declared.program_sites.settings.Settings.{Settings}

-- what a run goes by, as it is asked for, with these places
abbrev pub settings_of : RunOptions → Vec Place Global → Settings
settings_of options given = record {
  slots = options.slots;
  skip = options.skip;
  randomize = options.randomize;
  seed = options.seed;
  value_change_only = options.value_change_only;
  plain_writes_atomic = options.plain_writes_atomic;
  layout = options.layout;
  turns = options.turns;
  places = given;
}

-- these are the settings that are asked for: the numbers of the options, and the places that their text spells
pub record AskSettings (options : RunOptions) (settings : Settings) : Type 0 where
  pub bounds : KeepsBounds options
  pub settings_are : settings ≡ settings_of options settings.places
  pub places : places.Spells options.places.now settings.places.items
