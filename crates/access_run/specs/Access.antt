-- The records of one access of a task.
use Rattle.std.specs.Prelude.{◌≡◌, ℕ, List, Option}
use Rattle.access_run.specs.memory_operation.Operations.{Operates}
use Rattle.access_run.specs.declared.memory_operation.effect.Effect.{Effect}
use Rattle.access_run.specs.declared.memory_operation.operation.Operation.{Operation}
use Rattle.setup_access.specs.Check.{Check, Passes}
use Rattle.setup_access.specs.Records.{MakesWord}
use Rattle.setup_access.specs.Setting.{Setting}
use Rattle.setup_access.specs.declared.begun.Begun.{Begun}
use Rattle.slot_table.specs.declared.records.Record.{Record}
use Rattle.slot_table.specs.declared.step.Step.TheVariants.{Clock}

-- the records begin with an access that begins while these scoped assertions are in force: its check,
-- its operation on memory, if it has one, of which this comes, and the clock step of its end
pub record MakesAccess (s : Setting) (scopes : List Begun) (begun : Begun) (asked : ℕ)
    (operation : Option Operation) (records : List Record) (passes : Passes) (effect : Effect)
    (rest : List Record) : Type 0 where
  pub checked : List Record
  pub done : List Record
  pub check : Check s scopes begun asked records passes checked
  pub operates : Operates s begun.access operation checked effect done
  pub ends : MakesWord s.task Clock (λ stamp later. rest ≡ later) done
