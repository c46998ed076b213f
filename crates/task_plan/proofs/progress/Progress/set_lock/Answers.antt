use Rattle.std.proofs.Common.{refl}
use Rattle.task_plan.proofs.KeepsLemmas.{keeps_lock}
use Rattle.task_plan.proofs.progress.Progress.set_lock.Goals as goal

pub returns-in-Some-clause-keeps : goal.returns-in-Some-clause-keeps
returns-in-Some-clause-keeps c =
    λ variables before later keeps below.
    keeps_lock variables before later c.args.self.now _ c.args.variable c.args.held below keeps refl refl refl refl
