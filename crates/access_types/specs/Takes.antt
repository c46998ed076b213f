-- What a task keeps of each watchpoint of another task that it hit.
use Rattle.std.specs.Prelude.{ℕ}

-- a watchpoint that was hit: its finder's ticket, its index and its setter's ticket
pub record Take : Type 0 where
  pub finder : ℕ
  pub index : ℕ
  pub setter : ℕ
