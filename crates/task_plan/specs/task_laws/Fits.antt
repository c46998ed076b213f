-- Where a text fits what is left: its accesses lie in memory, and tickets have room for them.
use Rattle.std.specs.Prelude.{◌≡◌, ◌+◌, ◌<◌, ◌≤◌, ◌^◌, ℕ, IsSome, Some, length, slice_get}
use Rattle.access_types.specs.Access.{Access}
use Rattle.litmus_semantics.specs.Task.{bytes_in}
use Rattle.litmus_syntax.specs.Limits.{BlockTyped, IsLock, IsVariable}
use Rattle.litmus_syntax.specs.Sites.{sites_of}
use Rattle.litmus_syntax.specs.Tree.{Block}
use Rattle.litmus_syntax.specs.declared.program.Variable.{Variable}
use Rattle.setup_access.specs.OwnAccesses.{AreOwn}
use Rattle.setup_access.specs.Values.{source_of}
use Rattle.task_plan.specs.task_laws.Begins.{block_begins}
use Rattle.task_plan.specs.task_laws.StandingButWay.{begun_at, core_of}
use Rattle.program_order.specs.Standing.{Setting, Standing, checks_of}

-- the variable of a number has bytes, up to 8, of low addresses and in one cell
pub record HasBytes (s : Setting) (number : ℕ) : Type 0 where
  pub some : 0 < (bytes_in s.text number).size
  pub few : (bytes_in s.text number).size ≤ 8
  pub low : (bytes_in s.text number).addr ≤ 2 ^ 62
  pub in_cell : (a : Access) → a.addr ≡ (bytes_in s.text number).addr
      → a.size ≡ (bytes_in s.text number).size → IsSome (source_of (checks_of s) a)

-- so has each variable but the locks, and the task is one of 16
pub record ArePlaced (s : Setting) : Type 0 where
  pub task : s.text.task < 16
  pub bytes : (number : ℕ) (variable : Variable) → slice_get s.text.variables number ≡ Some variable
      → ¬ IsLock variable.contents → HasBytes s number

-- A block whose first site is this one fits where a task stands: each variable that it names is of the sort
-- that its place takes, its sites are among 256, and at none of them do more than 256 accesses begin.
pub record Fits (s : Setting) (registers site : ℕ) (body : Block) (before : Standing) : Type 0 where
  pub typed : BlockTyped (IsVariable s.text.variables) registers body
  pub sites : site + length (sites_of body) ≤ 256
  pub room : (at : ℕ) → begun_at at (core_of before) + block_begins site body at ≤ 256
  pub own : AreOwn (checks_of s) before.scopes
