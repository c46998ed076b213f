-- What follows on an access.
use Rattle.std.specs.Prelude.{◌+◌, ℕ, Bool, if◌then◌else◌}
use Rattle.litmus_syntax.specs.Tree.{Loading}
use Rattle.task_plan.specs.Counts.{up_to_last}

-- What takes the value of a load: nobody, where the load is a statement of its own; a register, which
-- gets the value of the expression that the load stands in, inside data_race( ) or not; or the
-- condition that it stands in.
pub data Taker : Type 0 where
  nobody : Taker
  to_register : (register : ℕ) → (value : Loading) → (data_race : Bool) → Taker
  condition : (value : Loading) → Taker

-- What follows on an access: nothing; the mark of ASSERT_EXCLUSIVE_BITS, by which the next access
-- counts as marked; the end of an assignment, inside data_race( ) or not; or the end of a load of so
-- many bytes, inside so many data_race( ), whose value is taken then.
pub data Follow : Type 0 where
  goes_on : Follow
  marks_next : Follow
  assigned : (data_race : Bool) → Follow
  loaded_by : (size data_races : ℕ) → Taker → Follow

-- how often reports are off for an assignment
abbrev pub so_often : Bool → ℕ
so_often data_race = if data_race then 1 else 0

-- how often they are turned off before a load, but for the load's own data_race( )
abbrev pub taker_off : Taker → ℕ
taker_off nobody = 0
taker_off (to_register register value data_race) = so_often data_race
taker_off (condition value) = 0

-- how often they are turned off before an access on which this follows
abbrev pub disable_count : Follow → ℕ
disable_count goes_on = 0
disable_count marks_next = 0
disable_count (assigned data_race) = so_often data_race
disable_count (loaded_by size data_races taker) = up_to_last (data_races + taker_off taker)
