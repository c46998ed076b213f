-- What an access is and its limits; when two share a byte, and when one of two writes or asserts no accesses.
use Rattle.std.specs.Prelude.{◌+◌, ◌^◌, ◌<◌, ◌≤◌, ◌==◌, ◌⊎◌, ℕ, Option, Some, None, IsTrue}
use Rattle.std.specs.Prelude.{if◌then◌else◌}
use Rattle.access_types.specs.declared.kind.Kind.{Kind}
use Rattle.access_types.specs.Kind.{write_flag}

-- an access: whose it is, at which site and repetition, the bytes from addr on, size of them, what
-- it does, and a mask or none
pub record Access : Type 0 where
  pub task : ℕ
  pub site : ℕ
  pub rep : ℕ
  pub addr : ℕ
  pub size : ℕ
  pub kind : Kind
  pub mask : Option ℕ

-- what holds of every access: there are 16 tasks, and 256 sites of a task and repetitions of a
-- site, and its range ends at 2^63 at most
pub record IsInLimits (a : Access) : Type 0 where
  pub task : a.task < 16
  pub site : a.site < 256
  pub rep : a.rep < 256
  pub range : a.addr + a.size ≤ 2 ^ 63

-- the byte is one of those of the access
abbrev pub Covers : Access → ℕ → Type 0
Covers a byte = (a.addr ≤ byte) × (byte < a.addr + a.size)

-- the two sets of bytes have a common member
abbrev pub Overlap : Access → Access → Type 0
Overlap a b = (byte : ℕ) × (Covers a byte × Covers b byte)

-- one of the two writes or asserts no accesses
abbrev pub Breaks : Access → Access → Type 0
Breaks a b = IsTrue (write_flag a.kind) ⊎ IsTrue (write_flag b.kind)

-- a mask without a bit is no mask
abbrev pub proper_mask : Option ℕ → Option ℕ
proper_mask None = None
proper_mask (Some mask) = if mask == 0 then None else Some mask
