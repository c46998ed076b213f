-- The task is asked once more, or ends and is asked without success.
use Rattle.std.proofs.Common.{◌≡◌, ◌∙◌, ◌+◌, ◌-◌, ap, arith, refl, replicate}
use Rattle.litmus_step.proofs.OrderLemmas.{one_more}
use Rattle.litmus_step.proofs.RoundLemmas.{asked_along, nobody_after, times_spelled}
use Rattle.litmus_step.proofs.TurnLemmas.{asked_failed_wait, asked_more, asked_nothing}
use Rattle.litmus_step.proofs.world.World.steps_of.Goals as goal
use Rattle.litmus_step.specs.declared.world.Stepped.TheVariants.{Ended, Moved, Stuck}

pub loop-made-init : goal.loop-made-init
loop-made-init c = record { asked = asked_nothing c.args.self.now; nobody = c.requires.nobody; tasks = refl; sites = refl; room = refl }

pub returns-in-Ended-clause-asked : goal.returns-in-Ended-clause-asked
returns-in-Ended-clause-asked c =
    let nobody = nobody_after c.loop-made.self c.step.new.self c.args.task Ended c.loop-made.invariant.nobody c.step.ensures.others
    c.in-Ended.ensures.tells (λ (no : Ended ≡ Stuck). cc) in
    let asked = asked_more c.args.self.now c.loop-made.self c.step.new.self (replicate c.loop-made._made c.args.task) c.args.task
    (omega (arith, c.requires.there, c.loop-made.invariant.tasks))
    c.loop-made.invariant.asked c.loop-made.invariant.nobody c.step.ensures.steps in (
      asked_along c.args.self.now c.step.new.self _ (replicate c.args.count c.args.task)
          (times_spelled c.args.task c.loop-made._made c.args.count c.loop-made-test.true)
          (asked_failed_wait c.args.self.now c.step.new.self _ c.args.task (c.args.count - (c.loop-made._made + 1)) asked nobody
          (λ run records leads. (c.in-Ended.ensures.ended run records leads).0 refl)),
      nobody,
    )

pub returns-in-Stuck-clause-stops : goal.returns-in-Stuck-clause-stops
returns-in-Stuck-clause-stops c = record {
  task = c.args.task;
  is = refl;
  there = omega (arith, c.requires.there, c.step.ensures.tasks, c.loop-made.invariant.tasks);
  stuck = λ run records leads. (c.in-Stuck.ensures.stuck run records leads).0 refl;
  front = _;
  later = _;
  spelled = times_spelled c.args.task c.loop-made._made c.args.count c.loop-made-test.true;
  asked = asked_more c.args.self.now c.loop-made.self c.step.new.self (replicate c.loop-made._made c.args.task) c.args.task
      (omega (arith, c.requires.there, c.loop-made.invariant.tasks))
      c.loop-made.invariant.asked c.loop-made.invariant.nobody c.step.ensures.steps;
}

pub returns-clause-asked : goal.returns-clause-asked
returns-clause-asked c =
    let all : c.loop-made._made ≡ c.args.count = omega (arith, c.loop-made-test.false, c.loop-made.auto._made-end) in (
      asked_along c.args.self.now c.loop-made.self (replicate c.loop-made._made c.args.task) (replicate c.args.count c.args.task)
          (ap (λ n. replicate n c.args.task) all) c.loop-made.invariant.asked,
      c.loop-made.invariant.nobody,
    )

pub loop-made-preserved : goal.loop-made-preserved
loop-made-preserved c = record {
  asked = asked_along c.args.self.now c.step.new.self _ (replicate (c.loop-made._made + 1) c.args.task)
      (one_more c.loop-made._made c.args.task)
      (asked_more c.args.self.now c.loop-made.self c.step.new.self (replicate c.loop-made._made c.args.task) c.args.task
      (omega (arith, c.requires.there, c.loop-made.invariant.tasks))
      c.loop-made.invariant.asked c.loop-made.invariant.nobody c.step.ensures.steps);
  nobody = nobody_after c.loop-made.self c.step.new.self c.args.task Moved c.loop-made.invariant.nobody c.step.ensures.others
      c.in-Moved.ensures.tells (λ (no : Moved ≡ Stuck). cc);
  tasks = c.step.ensures.tasks ∙ c.loop-made.invariant.tasks;
  sites = c.step.ensures.sites ∙ c.loop-made.invariant.sites;
  room = c.step.ensures.room ∙ c.loop-made.invariant.room;
}
