-- The sampler says whether the access is watched.
use Rattle.setup_access.specs.Setting.{seed_of}
use Rattle.setup_access.specs.Kept.{setting_with}
use Rattle.setup_access.proofs.pass.should_watch.Goals as goal

pub returns-then-not-begun-clause-watched : goal.returns-then-not-begun-clause-watched
returns-then-not-begun-clause-watched c = λ asked unmarked samples.
    c.should_watch.ensures.watched c.args.setting.now.rules.skip c.args.setting.now.rules.randomize (seed_of (setting_with c.args.setting.now c.args.sites.now)) asked samples
