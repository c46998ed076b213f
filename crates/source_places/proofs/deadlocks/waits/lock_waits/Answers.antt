-- At the end these are the waits of all tasks.
use Rattle.std.proofs.Common.{◌≡◌, arith, subst}
use Rattle.source_places.proofs.deadlocks.waits.lock_waits.Goals as goal
use Rattle.source_places.specs.deadlocks.Waits.{AreWaitsBelow}
use Rattle.litmus_step.specs.Runs.{tasks_of}

pub returns : goal.returns
returns c = λ run records leads.
    let len = c.args.world.now.tasks.ok.0 in
    let count = leads.tasks.all in
    let all : c.loop-task.task ≡ tasks_of run =
    omega (arith, c.loop-task-test.false, c.tasks-task-end.ensures, c.loop-task.auto.task-end, len, count) in
    subst (λ n. AreWaitsBelow run records n c.loop-task.waits.items) all (c.loop-task.invariant run records leads)
