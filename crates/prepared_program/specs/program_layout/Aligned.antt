-- Variables stand at multiples of their sizes.
use Rattle.std.specs.Prelude.{◌≡◌, ◌≤◌, ◌%◌, ◌^◌, ℕ, List, Some, slice_get}
use Rattle.access_types.specs.declared.history.Bytes.{Bytes}
use Rattle.litmus_semantics.specs.Layout.{VariablePlace, bytes_at}
use Rattle.litmus_syntax.specs.Limits.{IsLock}
use Rattle.litmus_syntax.specs.declared.program.Variable.{Variable}

-- the address is a multiple of the size, and at most 2^62
pub record IsAligned (bytes : Bytes) : Type 0 where
  pub multiple : bytes.addr % bytes.size ≡ 0
  pub low : bytes.addr ≤ 2 ^ 62

-- that of each variable but the locks is so
abbrev pub AreAligned : List VariablePlace → List Variable → Type 0
AreAligned places variables = (number : ℕ) (variable : Variable)
    → slice_get variables number ≡ Some variable → ¬ IsLock variable.contents
    → IsAligned (bytes_at places number variable)
