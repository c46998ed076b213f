-- Where nothing falls the log stays as it is, and that is what is kept with the step.
use Rattle.std.proofs.Common.{◌≡◌, ◌∙◌, None, Option, refl, subst, sym}
use Rattle.litmus_step.proofs.UnloggedLemmas.{none_fell, noted_as, noted_instead, noted_still, set_back}
use Rattle.litmus_step.proofs.world.note_fallen.Goals as goal
use Rattle.litmus_step.specs.Kept.{IsNotedIn}
use Rattle.setup_access.specs.declared.outcome.Outcome.{Outcome}
use Rattle.task_run.specs.Fell.{fell_of}

pub returns-then-is_none-clause-noted : goal.returns-then-is_none-clause-noted
returns-then-is_none-clause-noted c = λ begins log stands.
    let none : fell_of c.args.run.now ≡ None =
    sym c.last_outcome-outcome.ensures ∙ none_fell c.last_outcome-outcome.result c.is_none.result c.is_none.ensures c.if-is_none.true in (
      log,
      None,
      subst (λ (o : Option Outcome). IsNotedIn log (noted_as c.args.step c.args.answer begins o) log None) (sym none)
          (noted_still c.args.step c.args.answer begins log c.requires.unlogged),
      sym (set_back c.args.logs.now.items c.args.task log stands),
      refl,
    )

pub returns-clause-noted : goal.returns-clause-noted
returns-clause-noted c = λ begins log stands.
    let did = c.note_in.ensures.noted log stands in (
      did.0,
      did.1,
      noted_instead c.args.step c.args.answer None begins (fell_of c.args.run.now) log did.0 did.1 c.requires.unlogged
          (subst (λ (o : Option Outcome). IsNotedIn log (noted_as c.args.step c.args.answer None o) did.0 did.1) c.last_outcome-outcome.ensures did.2),
      did.3,
      did.4,
    )
