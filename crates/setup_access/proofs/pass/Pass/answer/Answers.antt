-- Each part's step is the check's.
use Rattle.setup_access.specs.Kept.{setting_with}
use Rattle.setup_access.specs.declared.pass.Pass.TheVariants as passes
use Rattle.setup_access.proofs.PassLemmas.{cleared_left, going_left, through}
use Rattle.setup_access.proofs.pass.Pass.answer.Goals as goal

pub returns-in-Find-clause-left : goal.returns-in-Find-clause-left
returns-in-Find-clause-left c = λ asked samples. rw c.in-Find.is (c.check_access.ensures.left asked samples)

pub returns-in-Found-clause-left : goal.returns-in-Found-clause-left
returns-in-Found-clause-left c = λ asked samples. rw c.in-Found.is
    (asked, samples, λ given later rest. c.took.ensures.left (setting_with c.args.setting.now c.args.sites.now) asked given later rest)

pub returns-in-Setup-clause-left : goal.returns-in-Setup-clause-left
returns-in-Setup-clause-left c = λ asked samples. rw c.in-Setup.is
    (asked, samples, λ given later rest. c.watched.ensures.left asked given later rest)

pub returns-in-Clear-clause-left : goal.returns-in-Clear-clause-left
returns-in-Clear-clause-left c = λ asked samples.
    let s = setting_with c.args.setting.now c.args.sites.now in
    rw c.in-Clear.is (
      asked,
      samples,
      λ given later rest.
          through (cleared_left s c.args.begun.now asked later given rest c.in-Clear.index c.args.answer (rw c.in-Clear.is at c.requires))
          (going_left s c.args.begun.now asked later given rest c.going.result (passes.Remove c.in-Clear.index) c.going.ensures),
    )

pub returns-in-Found-clause-falls : goal.returns-in-Found-clause-falls
returns-in-Found-clause-falls c = rw c.in-Found.is (c.took.ensures.falls (setting_with c.args.setting.now c.args.sites.now))
