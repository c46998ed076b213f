-- What is left of the look-up, and of what follows on it, is what is left of the check.
use Rattle.std.proofs.Common.{◌+◌, ◌∷◌, [], None, Some, inl, refl}
use Rattle.slot_table.specs.declared.step.Answer.TheVariants.{Word}
use Rattle.setup_access.specs.Kept.{setting_with}
use Rattle.setup_access.specs.Parts.{find_step, made}
use Rattle.setup_access.specs.declared.pass.Pass.TheVariants as passes
use Rattle.setup_access.proofs.FallLemmas.{sought_ends}
use Rattle.setup_access.proofs.PassLemmas.{going_left, look_goes, look_over, not_watched, through, watch_unmarked}
use Rattle.setup_access.proofs.pass.check_access.Goals as goal

pub returns-in-Going-clause-left : goal.returns-in-Going-clause-left
returns-in-Going-clause-left c = λ asked samples.
    let s = setting_with c.args.setting.now c.args.sites.now in
    rw c.in-Word.is (
      asked,
      samples,
      λ given later rest.
          through (look_goes s c.args.begun.now asked later given rest c.args.find c.in-Going.find (made s.task (find_step s c.args.begun.now.access c.args.find) (Word c.in-Word.word) ∷ later)
          (λ found mid. c.in-Going.ensures c.args.sites.now found later mid))
          (going_left s c.args.begun.now asked later given rest c.going.result (passes.Find c.in-Going.find) c.going.ensures),
    )

pub returns-in-Found-clause-left : goal.returns-in-Found-clause-left
returns-in-Found-clause-left c = λ asked samples.
    let s = setting_with c.args.setting.now c.args.sites.now in
    rw c.in-Word.is (
      asked,
      samples,
      λ given later rest.
          through (look_over s c.args.begun.now asked later given rest c.args.find (made s.task (find_step s c.args.begun.now.access c.args.find) (Word c.in-Word.word) ∷ later) (Some c.in-Found.found)
          (λ found mid. c.in-Found.ensures c.args.sites.now found later mid))
          (c.found_watchpoint.ensures.left s asked given later rest),
    )

pub returns-then-not-should_watch-clause-left : goal.returns-then-not-should_watch-clause-left
returns-then-not-should_watch-clause-left c = λ asked samples.
    let s = setting_with c.args.setting.now c.args.sites.now in
    let goes = not_watched s c.args.begun.now asked c.args.sampler.now c.should_watch.new.sampler c.should_watch.result c.over.result
    c.should_watch.ensures.kept (λ unmarked. c.should_watch.ensures.watched asked unmarked samples) (λ unmarked. c.should_watch.ensures.asked asked unmarked samples)
    c.if-not-should_watch.true c.over.ensures samples in
    rw c.in-Word.is (
      goes.0,
      goes.1,
      λ given later rest.
          through (look_over s c.args.begun.now asked later given rest c.args.find (made s.task (find_step s c.args.begun.now.access c.args.find) (Word c.in-Word.word) ∷ later) None
          (λ found mid. c.in-Missed.ensures c.args.sites.now found later mid))
          (goes.2 given later rest),
    )

pub returns-else-not-should_watch-clause-left : goal.returns-else-not-should_watch-clause-left
returns-else-not-should_watch-clause-left c = λ asked samples.
    let s = setting_with c.args.setting.now c.args.sites.now in
    let unmarked = watch_unmarked s c.args.begun.now asked c.args.sampler.now c.should_watch.new.sampler c.should_watch.result c.should_watch.ensures.marked c.if-not-should_watch.false in
    rw c.in-Word.is (
      asked + 1,
      c.should_watch.ensures.asked asked unmarked samples,
      λ given later rest.
          through (look_over s c.args.begun.now asked later given rest c.args.find (made s.task (find_step s c.args.begun.now.access c.args.find) (Word c.in-Word.word) ∷ later) None
          (λ found mid. c.in-Missed.ensures c.args.sites.now found later mid))
          (c.setup_watchpoint.ensures.left c.args.sites.now asked given later rest unmarked ((c.should_watch.ensures.watched asked unmarked samples).0 c.if-not-should_watch.false)),
    )

pub returns-in-Found-clause-falls : goal.returns-in-Found-clause-falls
returns-in-Found-clause-falls c =
    let s = setting_with c.args.setting.now c.args.sites.now in
    rw c.in-Word.is
    (c.found_watchpoint.ensures.falls s _
    (sought_ends s c.args.begun.now.access c.args.find.place c.in-Word.word (Some c.in-Found.found)
    ((c.in-Found.ensures c.args.sites.now (Some c.in-Found.found) [] []).1 (refl, refl))))

pub returns-then-not-should_watch-clause-falls : goal.returns-then-not-should_watch-clause-falls
returns-then-not-should_watch-clause-falls c =
    let s = setting_with c.args.setting.now c.args.sites.now in
    rw (c.in-Word.is, c.over.ensures)
    (inl (sought_ends s c.args.begun.now.access c.args.find.place c.in-Word.word None
    ((c.in-Missed.ensures c.args.sites.now None [] []).1 (refl, refl))))

pub returns-else-not-should_watch-clause-falls : goal.returns-else-not-should_watch-clause-falls
returns-else-not-should_watch-clause-falls c =
    let s = setting_with c.args.setting.now c.args.sites.now in
    rw c.in-Word.is
    (c.setup_watchpoint.ensures.falls s _
    (sought_ends s c.args.begun.now.access c.args.find.place c.in-Word.word None
    ((c.in-Missed.ensures c.args.sites.now None [] []).1 (refl, refl))))
