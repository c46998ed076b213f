use Rattle.std.specs.Prelude.{codes}
use Rattle.cli.proofs.kernel_config.SettingLemmas.{loosened}
use Rattle.cli.proofs.kernel_config.config.KernelConfig.read.Goals as goal

pub returns : goal.returns
returns c = record {
  value_change_only = loosened (codes "CONFIG_KCSAN_REPORT_VALUE_CHANGE_ONLY") c.args.text.now c.is_set-strict.result c.switch-change_only.result
      c.loose.result c.loose.ensures c.is_set-strict.ensures c.switch-change_only.ensures;
  plain_writes_atomic = loosened (codes "CONFIG_KCSAN_ASSUME_PLAIN_WRITES_ATOMIC") c.args.text.now c.is_set-strict.result c.switch-atomic.result
      c.loose-2.result c.loose-2.ensures c.is_set-strict.ensures c.switch-atomic.ensures;
  skip = c.value.ensures;
  randomize = c.switch.ensures;
  slots = c.value-2.ensures;
  unknown_origin = c.switch-2.ensures;
}
