-- A second machine that is where a first is.
use Rattle.std.specs.Prelude.{◌≡◌, ℕ}
use Rattle.std.specs.Arc.{arc_value}
use Rattle.setup_access.specs.Copies as checker
use Rattle.task_plan.specs.Keeps.{Keeps}
use Rattle.task_run.specs.declared.machine.Machine.{Machine}
use Rattle.task_plan.specs.Copies as walk
use Rattle.program_order.specs.Standing.{Standing}

-- a copy of a machine: it goes by the same, and is as far in its text
pub record IsCopy (machine copy : Machine) : Type 0 where
  pub task : copy.task ≡ machine.task
  pub rules : copy.rules ≡ machine.rules
  pub variables : copy.variables.now ≡ machine.variables.now
  pub layout : arc_value copy.layout ≡ arc_value machine.layout
  pub sites : arc_value copy.sites ≡ arc_value machine.sites
  pub walk : walk.IsCopy machine.walk copy.walk
  pub keeps : (variables : ℕ) (before : Standing) → Keeps variables before machine.progress → Keeps variables before copy.progress
  pub in_force : copy.in_force ≡ machine.in_force
  pub checker : checker.IsCopy machine.checker copy.checker
  pub begins : copy.begins ≡ machine.begins
