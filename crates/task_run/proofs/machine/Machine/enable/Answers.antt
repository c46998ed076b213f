-- One mark more each time round.
use Rattle.std.proofs.Common.{◌≡◌, ◌∙◌, arith, refl, subst}
use Rattle.access_types.specs.declared.history.Happening.TheVariants as happenings
use Rattle.access_types.specs.declared.history.Mark.TheVariants as marks
use Rattle.task_run.proofs.StandsLemmas.{stands_more, stands_still}
use Rattle.task_run.specs.Part.{enabled}
use Rattle.task_run.specs.Stands.{Stands}
use Rattle.task_run.proofs.machine.Machine.enable.Goals as goal

pub loop-init : goal.loop-init
loop-init c = record {
  stands = λ s before later stands. stands_still s before later (happenings.Mark marks.Enable) _ stands;
  walk = refl;
  lists = refl;
}

pub loop-preserved : goal.loop-preserved
loop-preserved c = record {
  stands = λ s before later stands. stands_more s before later c.loop.counter marks.Enable c.loop.self c.turns_on.new.self c.turns_on.ensures.stands
      (c.loop.invariant.stands s before later stands);
  walk = c.turns_on.ensures.walk ∙ c.loop.invariant.walk;
  lists = c.turns_on.ensures.room ∙ c.loop.invariant.lists;
}

pub returns-clause-stands : goal.returns-clause-stands
returns-clause-stands c = λ s before later stands.
    let all : c.loop.counter ≡ c.args.count = omega (arith, c.loop.auto.counter-end) in
    subst (λ n. Stands s (enabled n before later) c.loop.self) all (c.loop.invariant.stands s before later stands)
