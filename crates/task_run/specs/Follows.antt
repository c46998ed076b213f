-- What an access has to give to what follows on it.
use Rattle.std.specs.Prelude.{◌≡◌, ℕ, Some}
use Rattle.access_run.specs.declared.memory_operation.effect.Effect.{Effect}
use Rattle.task_plan.specs.Follow.{Follow, loaded_by}

-- a value was read, where one is taken
abbrev pub IsRead : Follow → Effect → Type 0
IsRead (loaded_by size data_races taker) effect = (old : ℕ) × (effect.read ≡ Some old)
IsRead follow effect = Unit {0}
