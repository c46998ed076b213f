-- Which outcomes have fallen by the records so far: they stay, and all others fall later.
use Rattle.std.specs.Prelude.{◌≡◌, ◌++◌, ℕ, List, [], ◌∷◌}
use Rattle.slot_table.specs.declared.records.Record.{Record}
use Rattle.setup_access.specs.Check.{Fallen, Passes}
use Rattle.setup_access.specs.Checker.{Does, Doing}
use Rattle.setup_access.specs.FallsAt.{AllFallIn}
use Rattle.setup_access.specs.Setting.{Setting}
use Rattle.setup_access.specs.declared.begun.Begun.{Begun}
use Rattle.setup_access.specs.declared.outcome.Outcome.{Outcome}

-- the same outcomes, where these records follow too
abbrev pub followed : List Record → List Fallen → List Fallen
followed records [] = []
followed records (first ∷ others) = record first { later = first.later ++ records } ∷ followed records others

-- what they are
abbrev pub outcomes_in : List Fallen → List Outcome
outcomes_in [] = []
outcomes_in (first ∷ others) = first.outcome ∷ outcomes_in others

-- these outcomes have fallen by the records so far: each at one of them; and whatever completes the records, these come
-- first, and all others fall at records that follow
pub record HaveFallen (s : Setting) (scopes : List Begun) (doing : Doing) (asked : ℕ) (records : List Record) (fallen : List Fallen) : Type 0 where
  pub falls : AllFallIn s records fallen
  pub first : (later : List Record) (passes : Passes) → Does s scopes doing asked (records ++ later) passes
      → (more : List Fallen) × (passes.outcomes ≡ followed later fallen ++ more) × AllFallIn s later more
