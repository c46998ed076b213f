-- What a task's checks go by: its rules, the three indices of an access, and which accesses are watched.
use Rattle.std.specs.Prelude.{◌+◌, ◌/◌, ◌%◌, ◌^◌, ℕ, List, [], ◌∷◌}
use Rattle.access_types.specs.Access.{Access}
use Rattle.access_types.specs.Sites.{AccessMap}
use Rattle.skip_sampler.specs.Sampler.{SamplerPositions}
use Rattle.setup_access.specs.declared.rules.Rules.{Rules}

-- what a task's checks go by: whose they are, the rules of the run, the addresses of the cells, and the accesses that
-- tickets name
pub record Setting : Type 0 where
  pub task : ℕ
  pub rules : Rules
  pub cells : List ℕ
  pub sites : AccessMap

-- the slot of an access: that of its page
abbrev pub slot_of : Setting → Access → ℕ
slot_of s a = a.addr / 4096 % s.rules.slots

-- a look-up reads these indices, in this order
abbrev pub look_order : ℕ → List ℕ
look_order slot = slot ∷ (slot + 1) ∷ (slot + 2) ∷ []

-- an insertion tries these indices, in this order
abbrev pub try_order : ℕ → List ℕ
try_order slot = (slot + 1) ∷ (slot + 2) ∷ slot ∷ []

-- the seed of the task's generator
abbrev pub seed_of : Setting → ℕ
seed_of s = (s.rules.seed + s.task) % 2 ^ 64

-- the task's sampler, asked once more after so many askings, says that the access is watched
abbrev pub IsWatched : Setting → ℕ → Type 0
IsWatched s asked = SamplerPositions s.rules.skip s.rules.randomize (seed_of s) (asked + 1)
