-- What it goes by is shared, and the rest is copied.
use Rattle.std.proofs.Common.{◌≡◌, ◌++◌, ◌∷◌, ℕ, List, ap, refl}
use Rattle.setup_access.specs.Shown as checker
use Rattle.task_plan.specs.Room as progress
use Rattle.task_run.proofs.machine.Machine.copy.Goals as goal

pub returns-clause-same : goal.returns-clause-same
returns-clause-same c = record {
  task = refl;
  rules = refl;
  variables = refl;
  layout = c.in_ok-layout.ensures;
  sites = c.in_ok-sites.ensures;
  walk = c.in_ok-walk.ensures;
  keeps = c.in_ok-progress.ensures.keeps;
  in_force = refl;
  checker = c.in_ok-checker.ensures;
  begins = refl;
}

pub returns-clause-room : goal.returns-clause-room
returns-clause-room c = λ i.
    c.in_ok-walk.ensures.room i ∷ (c.in_ok-progress.ensures.room i ++ c.in_ok-checker.ensures.room i)
