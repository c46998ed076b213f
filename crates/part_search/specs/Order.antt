-- Parts in the order of their numbers.
use Rattle.std.specs.Prelude.{◌≡◌, ◌+◌, ◌++◌, ◌∷◌, ◌≤◌, [], ℕ, zero, suc, Contains, IsTrue, List, map}
use Rattle.part_search.specs.part_file.Wholes.{has_number}
use Rattle.part_search.specs.declared.part_file.part.Part.{Part}

-- the numbers from 1 to this one
abbrev pub numbers_to : ℕ → List ℕ
numbers_to zero = []
numbers_to (suc n) = numbers_to n ++ (n + 1) ∷ []

-- each number from 1 to this one is that of a part
abbrev pub HasAll : List Part → (count : ℕ) → Type 0
HasAll parts count = (number : ℕ) → 1 ≤ number → number ≤ count → IsTrue (has_number parts number)

-- these are parts of all, one of each number from 1 to this one, in the order of their numbers
pub record AreInOrder (all : List Part) (count : ℕ) (ordered : List Part) : Type 0 where
  pub numbers : map (λ part. part.part) ordered ≡ numbers_to count
  pub each : (part : Part) → Contains ordered part → Contains all part
