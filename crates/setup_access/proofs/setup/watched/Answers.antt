-- What is left of the watch is what is left of the check.
use Rattle.std.proofs.Common.{◌∷◌}
use Rattle.setup_access.specs.Kept.{setting_with}
use Rattle.setup_access.specs.Parts.{made, setup_step}
use Rattle.setup_access.specs.declared.outcome.Outcome.TheVariants.{Capacity}
use Rattle.setup_access.specs.declared.pass.Pass.TheVariants as passes
use Rattle.setup_access.proofs.PassLemmas.{going_left, through, unsettled_left, watch_full, watch_goes, watch_over}
use Rattle.setup_access.proofs.setup.watched.Goals as goal

pub returns-in-Going-clause-left : goal.returns-in-Going-clause-left
returns-in-Going-clause-left c = λ asked given later rest.
    let s = setting_with c.args.setting.now c.args.sites.now in
    through (watch_goes s c.args.begun.now asked later given rest c.args.setup c.in-Going.setup (made s.task (setup_step s c.args.begun.now.access c.args.setup) c.args.answer ∷ later)
    (λ judged mid. c.in-Going.ensures.left judged later mid))
    (going_left s c.args.begun.now asked later given rest c.going.result (passes.Setup c.in-Going.setup) c.going.ensures)

pub returns-in-Full-clause-left : goal.returns-in-Full-clause-left
returns-in-Full-clause-left c = λ asked given later rest.
    let s = setting_with c.args.setting.now c.args.sites.now in
    through (watch_full s c.args.begun.now asked later given rest c.args.setup (made s.task (setup_step s c.args.begun.now.access c.args.setup) c.args.answer ∷ later)
    (λ judged mid. c.in-Full.ensures.left judged later mid))
    (unsettled_left s c.args.begun.now asked later given rest c.over.result Capacity c.over.ensures)

pub returns-in-Judged-clause-left : goal.returns-in-Judged-clause-left
returns-in-Judged-clause-left c = λ asked given later rest.
    let s = setting_with c.args.setting.now c.args.sites.now in
    watch_over s c.args.begun.now asked later given rest c.args.setup (made s.task (setup_step s c.args.begun.now.access c.args.setup) c.args.answer ∷ later) c.in-Judged.index c.in-Judged.outcome c.over-in-Judged.result
    (λ judged mid. c.in-Judged.ensures.left judged later mid) c.over-in-Judged.ensures
