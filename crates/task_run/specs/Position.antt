-- Where a task stands is told by its own way.
use Rattle.std.specs.Prelude.{◌≡◌, ◌≤◌, ◌++◌, ℕ, Bool, false, List, [], ◌∷◌, length}
use Rattle.access_types.specs.declared.history.Happening.{Happening}
use Rattle.litmus_semantics.specs.Task.{Progress}
use Rattle.setup_access.specs.Check.{Fallen}
use Rattle.slot_table.specs.declared.records.Record.{Record}
use Rattle.program_order.specs.InProgress.{is_bound}
use Rattle.program_order.specs.Standing.{Point, Standing, coming, counting}
use Rattle.program_order.specs.WrittenOrder.{first_point}

-- no access begins or ends in what a task did
abbrev pub AreOfNoBound : List Happening → Type 0
AreOfNoBound [] = Unit {0}
AreOfNoBound (happening ∷ later) = (is_bound happening ≡ false) × AreOfNoBound later

-- what a task computes with these records still to come, from where it stood to where it stands then: no access begins
-- or ends in it
pub data Computes (later : List Record) (before : Standing) : Standing → Type 0 where
  nothing : Computes later before before
  one_more : (between : Standing) (ends_nothing : Bool) (progress : Progress) (does : List Happening)
      → progress.did ≡ between.progress.did ++ does → AreOfNoBound does → Computes later before between
      → Computes later before (coming (counting ends_nothing between) later progress)

-- the same, whichever records are to come
abbrev pub ComputesBy : (List Record → Standing) → (List Record → Standing) → Type 0
ComputesBy before now = (later : List Record) → Computes later (before later) (now later)

-- at each of these points so many records were still to come, or more
abbrev pub AllFrom : ℕ → List Point → Type 0
AllFrom count [] = Unit {0}
AllFrom count (point ∷ points) = (count ≤ point.to_come) × AllFrom count points

-- so many records follow on each of these outcomes, or more
abbrev pub AllFellFrom : ℕ → List Fallen → Type 0
AllFellFrom count [] = Unit {0}
AllFellFrom count (fallen ∷ others) = (count ≤ length fallen.later) × AllFellFrom count others

-- the last point of a way, or the one before it where it has none
abbrev pub last_of : Point → List Point → Point
last_of last [] = last
last_of last (next ∷ points) = last_of next points

-- Of a task with so many registers, which stands here with these records still to come: each point of
-- its way is before them, and each of its outcomes fell before them. The last point is where it stands.
pub record IsTold (registers : ℕ) (later : List Record) (before : Standing) : Type 0 where
  pub points : AllFrom (length later) before.way
  pub outcomes : AllFellFrom (length later) before.outcomes
  pub progress : (to_come : ℕ)
      → (last_of (first_point to_come registers) before.way).progress ≡ before.progress
  pub unbalanced : (to_come : ℕ)
      → (last_of (first_point to_come registers) before.way).unbalanced ≡ before.unbalanced
