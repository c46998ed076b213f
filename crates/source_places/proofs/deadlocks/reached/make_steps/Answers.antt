-- The task is asked once more, or makes no step more.
use Rattle.std.proofs.Common.{◌≡◌, ◌∙◌, ◌+◌, ◌-◌, ap, arith, refl, replicate}
use Rattle.litmus_step.proofs.OrderLemmas.{one_more}
use Rattle.litmus_step.proofs.RoundLemmas.{times_spelled}
use Rattle.source_places.proofs.deadlocks.AskedLemmas.{asks_along, asks_beyond, asks_nothing, asks_rest, asks_step, asks_then, no_step}
use Rattle.source_places.proofs.deadlocks.reached.make_steps.Goals as goal

pub returns-then-task-tasks : goal.returns-then-task-tasks
returns-then-task-tasks c = asks_beyond c.args.world.now c.args.task c.args.count (omega (arith, c.tasks.ensures))

pub loop-made-init : goal.loop-made-init
loop-made-init c = record { asks = asks_nothing c.args.world.now; tasks = refl }

pub returns-in_default : goal.returns-in_default
returns-in_default c =
    let task = c.args.task in
    let made = c.loop-made._made in
    let after = c.step.new.self in
    asks_along c.args.world.now after _ _ (times_spelled task made c.args.count c.loop-made-test.true)
    (asks_then c.args.world.now after after _ _
    (asks_then c.args.world.now c.loop-made.world after _ _ c.loop-made.invariant.asks
    (asks_step c.loop-made.world after task c.step.ensures.steps))
    (asks_rest after task (c.args.count - (made + 1))
    (λ run records leads. no_step run records task c.step.result c.in_default.not-Moved
    (c.step.ensures.ended run records leads) (c.step.ensures.stuck run records leads))))

pub loop-made-preserved : goal.loop-made-preserved
loop-made-preserved c = record {
  asks = asks_along c.args.world.now c.step.new.self _ _ (one_more c.loop-made._made c.args.task)
      (asks_then c.args.world.now c.loop-made.world c.step.new.self _ _ c.loop-made.invariant.asks
      (asks_step c.loop-made.world c.step.new.self c.args.task c.step.ensures.steps));
  tasks = c.step.ensures.tasks ∙ c.loop-made.invariant.tasks;
}

pub returns : goal.returns
returns c =
    let all : c.loop-made._made ≡ c.args.count = omega (arith, c.loop-made-test.false, c.loop-made.auto._made-end) in
    asks_along c.args.world.now c.loop-made.world _ _ (ap (λ n. replicate n c.args.task) all) c.loop-made.invariant.asks
