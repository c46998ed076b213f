-- What a task keeps of each watchpoint that it has set up and removed.
use Rattle.std.specs.Prelude.{ℕ}
use Rattle.access_types.specs.declared.arms.ArmOutcome.{ArmOutcome}

-- a watchpoint that was set up and removed: its setter's ticket, how many armings of that access
-- came before, its index, its watch word, and what became of it
pub record Arm : Type 0 where
  pub setter : ℕ
  pub number : ℕ
  pub index : ℕ
  pub watch_word : ℕ
  pub outcome : ArmOutcome
