-- What a search goes by, and how a part tells it.
use Rattle.std.specs.Prelude.{◌≡◌, false}
use Rattle.part_search.specs.part_file.Views.{PartView}
use Rattle.part_search.specs.declared.part_file.part.PartSettings.{PartSettings}
use Rattle.prepared_program.specs.declared.program_sites.settings.Settings.{Settings}
use Rattle.search_run.specs.declared.wanted.Wanted.{Wanted}

-- settings and bounds, but for where variables stand
abbrev pub part_settings : Settings → Wanted → PartSettings
part_settings settings wanted = record {
  slots = settings.slots;
  skip = settings.skip;
  randomize = settings.randomize;
  seed = settings.seed;
  value_change_only = settings.value_change_only;
  plain_writes_atomic = settings.plain_writes_atomic;
  layout = settings.layout;
  turns = settings.turns;
  switches = wanted.switches;
  limit = wanted.limit;
  seconds = wanted.seconds;
  traced = wanted.traced;
  unknown_origin = wanted.unknown_origin;
}

-- the bounds of these
abbrev pub wanted_of : PartSettings → Wanted
wanted_of settings = record {
  switches = settings.switches;
  limit = settings.limit;
  seconds = settings.seconds;
  traced = settings.traced;
  unknown_origin = settings.unknown_origin;
}

-- the part tells that its search went by these
pub record GoesBy (settings : Settings) (wanted : Wanted) (part : PartView) : Type 0 where
  pub settings_are : part.settings ≡ part_settings settings wanted
  pub places_are : part.places ≡ settings.places.items

-- what is wanted, and no trace
abbrev pub untraced : Wanted → Wanted
untraced wanted = record wanted { traced = false }
