-- The bytes of a variable lie in one cell of memory.
use Rattle.std.specs.Prelude.{◌≤◌, ◌+◌, ℕ, Contains, List}
use Rattle.access_types.specs.declared.history.Bytes.{Bytes}

-- the bytes lie in one of the cells at these addresses
pub record LieInOneCell (cells : List ℕ) (bytes : Bytes) : Type 0 where
  pub cell : ℕ
  pub is_there : Contains cells cell
  pub low : cell ≤ bytes.addr
  pub high : bytes.addr + bytes.size ≤ cell + 8
