-- What a walk can hold before it takes memory.
use Rattle.std.specs.Prelude.{ℕ, vec_capacity}
use Rattle.task_plan.specs.declared.walk.Walk.{Walk}

-- how many blocks it can stand in
abbrev pub room_of : Walk → ℕ
room_of walk = vec_capacity walk.blocks
