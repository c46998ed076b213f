-- What is kept of how often each access armed.
use Rattle.std.specs.Prelude.{◌≡◌, ℕ, List, count_by, nat_eq}
use Rattle.trace_replay.specs.Table.{value_at}
use Rattle.trace_replay.specs.declared.armings.Armings.{Armings}

-- how often the access of the ticket armed
abbrev pub armings_of : Armings → ℕ → ℕ
armings_of armings ticket = value_at armings.by_ticket ticket

-- each access armed as often as its ticket stands among these
abbrev pub AreArmings : List ℕ → Armings → Type 0
AreArmings tickets armings = (ticket : ℕ) → armings_of armings ticket ≡ count_by (nat_eq ticket) tickets
