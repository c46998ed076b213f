-- What a kernel's configuration says of the settings of KCSAN that this program has too.
use Rattle.std.specs.Prelude.{◌≡◌, ℕ, Bool, List, Option, Some, codes, false, option_map, if◌then◌else◌}
use Rattle.cli.specs.kernel_config.Setting.{is_set, switch_in, value_in}
use Rattle.cli.specs.declared.kernel_config.config.KernelConfig.{KernelConfig}

-- what a text says of a setting that is there only where `KCSAN_STRICT` isn't set: beside that it is off, and no line
-- of a `.config` says so
abbrev pub loose_in : (name text : List ℕ) → Option Bool
loose_in name text = if is_set (codes "CONFIG_KCSAN_STRICT") text then Some false else switch_in name text

-- each field of a configuration is what the text says of the setting of this name
pub record IsSaidIn (text : List ℕ) (config : KernelConfig) : Type 0 where
  pub value_change_only : config.value_change_only ≡ loose_in (codes "CONFIG_KCSAN_REPORT_VALUE_CHANGE_ONLY") text
  pub plain_writes_atomic : config.plain_writes_atomic ≡ loose_in (codes "CONFIG_KCSAN_ASSUME_PLAIN_WRITES_ATOMIC") text
  pub skip : option_map (λ number. number.now) config.skip ≡ value_in (codes "CONFIG_KCSAN_SKIP_WATCH") text
  pub randomize : config.randomize ≡ switch_in (codes "CONFIG_KCSAN_SKIP_WATCH_RANDOMIZE") text
  pub slots : option_map (λ number. number.now) config.slots ≡ value_in (codes "CONFIG_KCSAN_NUM_WATCHPOINTS") text
  pub unknown_origin : config.unknown_origin ≡ switch_in (codes "CONFIG_KCSAN_REPORT_RACE_UNKNOWN_ORIGIN") text
