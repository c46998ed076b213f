-- What checks go by under some settings.
use Rattle.setup_access.specs.declared.rules.Rules.{Rules}
use Rattle.prepared_program.specs.declared.program_sites.settings.Settings.{Settings}

abbrev pub rules_of : Settings → Rules
rules_of settings = record {
  slots = settings.slots;
  skip = settings.skip;
  randomize = settings.randomize;
  seed = settings.seed;
  value_change_only = settings.value_change_only;
  plain_writes_atomic = settings.plain_writes_atomic;
  layout = settings.layout;
  turns = settings.turns;
}
