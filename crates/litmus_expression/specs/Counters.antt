-- The registers that count the loops round a place: flags say which, and so does a list.
use Rattle.std.specs.Prelude.{◌≡◌, ℕ, List, Bool, true, Contains, length}
use Rattle.litmus_syntax.specs.Limits.{registers_limit}
use Rattle.litmus_expression.specs.Places.{is_counter}

pub record AreCounters (flags : List Bool) (counters : List ℕ) : Type 0 where
  pub sized : length flags ≡ registers_limit
  pub listed : (register : ℕ) → is_counter flags register ≡ true → Contains counters register
  pub flagged : (register : ℕ) → Contains counters register → is_counter flags register ≡ true
