-- When two accesses are a true data race, and when an access's bytes changed under its watch.
use Rattle.std.specs.Prelude.{◌≡◌, ◌≢◌, ◌<◌, ◌≤◌, ℕ, Bool, Option, Some, None, All, bit_and}
use Rattle.std.specs.Prelude.{bit_xor, drop, length, take}
use Rattle.access_types.specs.Access.{Access, Breaks, Overlap}
use Rattle.access_types.specs.History.{History, InProgress, Memory, content}
use Rattle.access_types.specs.Marked.{CountedAsMarked, Silenced}
use Rattle.access_types.specs.declared.history.Bytes.{Bytes}
use Rattle.access_types.specs.declared.history.Moment.{Moment}

-- the two accesses race: of different tasks, with a common byte, conflicting, not both marked,
-- neither silenced, and in progress at one moment
pub record TrueRace (plain_writes_atomic : Bool) (history : History) (s f : Access) : Type 0 where
  pub tasks : s.task ≢ f.task
  pub overlap : Overlap s f
  pub breaks : Breaks s f
  pub unmarked : ¬ (
      CountedAsMarked plain_writes_atomic history s × CountedAsMarked plain_writes_atomic history f
      )
  pub first_heard : ¬ Silenced history s
  pub second_heard : ¬ Silenced history f
  pub moment : ℕ
  pub first_goes : InProgress history s moment
  pub second_goes : InProgress history f moment

-- two values differ in a bit of the mask, or in any bit where there is none
abbrev pub Differ : Option ℕ → ℕ → ℕ → Type 0
Differ None old new = old ≢ new
Differ (Some mask) old new = bit_and (bit_xor old new) mask ≢ 0

-- the bytes of an access
abbrev pub bytes_of : Access → Bytes
bytes_of a = record { addr = a.addr; size = a.size }

-- the bytes of an access changed from old to new while it was in progress, by no moment of its own
-- task
pub record ChangedUnderWatch (initial : Memory) (history : History) (a : Access) (old new : ℕ) :
    Type 0 where
  pub first : ℕ
  pub later : ℕ
  pub order : first < later
  pub within : later ≤ length history
  pub goes_at_first : InProgress history a first
  pub goes_later : InProgress history a later
  pub was : content initial history first (bytes_of a) ≡ old
  pub is : content initial history later (bytes_of a) ≡ new
  pub differ : Differ a.mask old new
  pub others : All (λ (moment : Moment). moment.task ≢ a.task) (drop first (take later history))
