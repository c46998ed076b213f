-- A walk that stands where another one stands.
use Rattle.std.specs.Prelude.{◌≡◌}
use Rattle.task_plan.specs.Capacity.{room_of}
use Rattle.task_plan.specs.declared.walk.Walk.{Walk}

-- it stands in the same blocks, has come to the same choice, and can stand in as many blocks
pub record IsCopy (walk copy : Walk) : Type 0 where
  pub blocks : copy.blocks.items ≡ walk.blocks.items
  pub choice : copy.choice ≡ walk.choice
  pub room : room_of copy ≡ room_of walk
