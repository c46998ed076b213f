-- Tasks at their seats, before their steps.
use Rattle.std.specs.Prelude.{◌≡◌, ◌<◌, ◌≤◌, ℕ, vec_capacity}
use Rattle.litmus_step.specs.Kept.{watches_kept}
use Rattle.litmus_step.specs.Runs.{tasks_of}
use Rattle.runner.specs.Led.{IsLed}
use Rattle.runner.specs.Terms.{run_by}
use Rattle.runner.specs.declared.seated.SeatedTask.{SeatedTask}
use Rattle.runner.specs.declared.terms.Terms.{Terms}

-- the task of a number sits before the words of the run, and the records of its seat lead to its machine
pub record IsSeated (terms : Terms) (task : ℕ) (seated : SeatedTask) : Type 0 where
  pub there : task < tasks_of (run_by terms)
  pub number : seated.number ≡ task
  pub table : seated.seat.table ≡ terms.table.now
  pub own : seated.seat.task ≡ task
  pub led : IsLed (run_by terms) task seated.seat.records seated.run seated.log seated.reports.items (vec_capacity seated.reports)
  pub room : watches_kept (run_by terms) task ≤ vec_capacity seated.reports
