-- The task's wait is one more, or it has none.
use Rattle.std.proofs.Common.{◌+◌, List, refl, subst, sym}
use Rattle.source_places.proofs.deadlocks.WaitLemmas.{Held, few_tasks, no_try, none_more, not_held, one_more, only_wait, wait_is}
use Rattle.source_places.proofs.deadlocks.waits.add_wait.Goals as goal
use Rattle.source_places.specs.deadlocks.Waits.{AreWaitsBelow}
use Rattle.source_places.specs.declared.deadlocks.waits.LockWait.{LockWait}

pub returns-in_default : goal.returns-in_default
returns-in_default c = λ run records leads are.
    none_more run records c.args.task c.args.waits.now.items are (no_try run records c.args.task (c.in_default.ensures run records leads))

pub returns-in_default-2 : goal.returns-in_default-2
returns-in_default-2 c = λ run records leads are.
    let world = c.args.world.now in
    let held = subst (Held world c.in-Some.lock) c.in_default-2.is (c.in_ok-holder.ensures (few_tasks run records world leads)) in
    none_more run records c.args.task c.args.waits.now.items are
    (not_held run records world c.args.task c.in-Some.lock leads (c.in-Some.ensures run records leads) held)

pub returns : goal.returns
returns c = λ run records leads are.
    let world = c.args.world.now in
    let task = c.args.task in
    let lock = c.in-Some.lock in
    let holder = c.in-Some-2.holder in
    let tried = c.in-Some.ensures run records leads in
    let held = subst (Held world lock) c.in-Some-2.is (c.in_ok-holder.ensures (few_tasks run records world leads)) in
    subst (λ (waits : List LockWait). AreWaitsBelow run records (task + 1) waits) (sym c.in_ok-push.ensures.items)
    (one_more run records task c.args.waits.now.items _ are refl (wait_is run records world task lock holder leads tried held)
    (only_wait run records world task lock holder leads tried held))
