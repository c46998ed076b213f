-- A silenced access asks the sampler unless it counts as marked; another is checked.
use Rattle.std.proofs.Common.{◌+◌}
use Rattle.setup_access.specs.Kept.{setting_with}
use Rattle.setup_access.specs.Setting.{seed_of}
use Rattle.setup_access.proofs.StageLemmas.{heard_left, marked_silenced, not_false, not_true, unmarked_silenced}
use Rattle.setup_access.proofs.stage.began.Goals as goal

pub returns-then-not-begun-clause-left : goal.returns-then-not-begun-clause-left
returns-then-not-begun-clause-left c = λ scopes asked samples.
    (asked, samples, λ records passes. rw c.check_of.ensures (heard_left (setting_with c.args.setting.now c.args.sites.now) c.args.begun asked records passes scopes (not_true _ c.if-not-begun.true)))

pub returns-then-begun-clause-left : goal.returns-then-begun-clause-left
returns-then-begun-clause-left c = λ scopes asked samples.
    (asked, samples, λ records passes. marked_silenced (setting_with c.args.setting.now c.args.sites.now) c.args.begun asked records passes scopes (not_false _ c.if-not-begun.false) c.if-begun.true)

pub returns-clause-left : goal.returns-clause-left
returns-clause-left c = λ scopes asked samples.
    let s = setting_with c.args.setting.now c.args.sites.now in (
      asked + 1,
      c.should_watch.ensures.follows s.rules.skip s.rules.randomize (seed_of s) asked samples,
      λ records passes. unmarked_silenced s c.args.begun asked records passes scopes (not_false _ c.if-not-begun.false) c.if-begun.false,
    )
