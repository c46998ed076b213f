use Rattle.std.proofs.Common.{◌∙◌, ap}
use Rattle.std.proofs.lemmas.Iterator.Consumers.{YieldsList-end}
use Rattle.std.proofs.lemmas.Iterator.Splits.{YieldsList-from_lines}
use Rattle.cli.specs.kernel_config.Setting.{last_said, value_in}
use Rattle.cli.proofs.kernel_config.SettingLemmas.{said_further}
use Rattle.cli.proofs.kernel_config.setting.value.Goals as goal

pub loop-line-preserved : goal.loop-line-preserved
loop-line-preserved c =
    said_further c.args.name.now c.loop-line.yielded c.in-Some.line c.said.result c.loop-line.value c.or-value.result c.said.ensures c.loop-line.invariant c.or-value.ensures

pub returns : goal.returns
unfolding value_in
returns c =
    let end = YieldsList-end (YieldsList-from_lines c.args.text.now (cc)) c.loop-line.yielded _ c.loop-line.yielded_by _ _ c.in-None.is c.next.ensures.steps in
    c.loop-line.invariant ∙ ap (last_said c.args.name.now) end.0
