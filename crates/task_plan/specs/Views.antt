-- What an access is and what follows on it, without where that lies in memory.
use Rattle.std.specs.Prelude.{ℕ, Option}
use Rattle.access_types.specs.declared.history.Bytes.{Bytes}
use Rattle.access_types.specs.declared.kind.Kind.{Kind}
use Rattle.litmus_syntax.specs.Views.{loading_of}
use Rattle.access_run.specs.declared.memory_operation.operation.Operation.{Operation}
use Rattle.task_plan.specs.Follow as spec
use Rattle.task_plan.specs.Follow.{Follow}
use Rattle.task_plan.specs.declared.follow.Taker.{Taker}
use Rattle.task_plan.specs.declared.follow.Taker.TheVariants as takers
use Rattle.task_plan.specs.declared.follow.Then.{Then}
use Rattle.task_plan.specs.declared.follow.Then.TheVariants as thens
use Rattle.task_plan.specs.declared.plan.Plan as code

abbrev pub taker_of : Taker → spec.Taker
taker_of takers.Nobody = spec.nobody
taker_of (takers.Register register value data_race) =
    spec.to_register register (loading_of value.now) data_race
taker_of (takers.Condition value) = spec.condition (loading_of value.now)

abbrev pub follow_of : Then → Follow
follow_of thens.GoesOn = spec.goes_on
follow_of thens.MarksNext = spec.marks_next
follow_of (thens.Assigned data_race) = spec.assigned data_race
follow_of (thens.Loaded size data_races taker) = spec.loaded_by size data_races (taker_of taker)

-- an access of a statement: its bytes, its kind and its mask, its operation, if it touches memory, and
-- what follows on it
pub record Plan : Type 0 where
  pub bytes : Bytes
  pub kind : Kind
  pub mask : Option ℕ
  pub operation : Option Operation
  pub follow : Follow

abbrev pub plan_of : code.Plan → Plan
plan_of plan = record {
  bytes = plan.bytes;
  kind = plan.kind;
  mask = plan.mask;
  operation = plan.operation;
  follow = follow_of plan.after;
}
