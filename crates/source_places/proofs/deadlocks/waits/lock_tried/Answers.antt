-- By the task's next step.
use Rattle.std.proofs.Common.{◌≡◌, ◌↔◌, ℕ, Option, Some, subst, sym}
use Rattle.source_places.proofs.deadlocks.WaitLemmas.{tries_by}
use Rattle.source_places.proofs.deadlocks.waits.lock_tried.Goals as goal
use Rattle.source_places.specs.deadlocks.Waits.{TriesLock}

pub returns : goal.returns
returns c = λ run records leads lock.
    subst (λ (found : Option ℕ). found ≡ Some lock ↔ TriesLock run records c.args.task lock) (sym c.lock_of.ensures)
    (tries_by run records c.args.task c.next.result (leads.list.tasks c.args.task) (c.next.ensures.goes run records leads)
    (c.next.ensures.none run records leads) lock)
