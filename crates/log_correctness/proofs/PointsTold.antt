-- The points of a way at which a task stands with the same registers, and with as many calls that had nothing to end.
use Rattle.std.proofs.Common.{◌≡◌, ◌<◌, ◌≤◌, ◌++◌, ◌∷◌, [], inl, inr, ℕ, List, None, Option, Some, append_assoc, arith, refl, sym}
use Rattle.std.proofs.lemmas.Bool.{le-leb}
use Rattle.std.proofs.lemmas.Bool.Decides.{leb_tells}
use Rattle.std.proofs.lemmas.List.{append-nil}
use Rattle.access_types.specs.Access as access
use Rattle.access_run.specs.declared.memory_operation.effect.Effect.{Effect}
use Rattle.access_run.specs.declared.memory_operation.operation.Operation.{Operation}
use Rattle.access_run.specs.declared.memory_operation.operation.Operation.TheVariants as operations
use Rattle.slot_table.specs.declared.records.Record.{Record}
use Rattle.task_run.specs.Position.{AllFrom, last_of}
use Rattle.program_order.specs.Access.{operated}
use Rattle.program_order.specs.Standing.{Point, Standing, point_by}

-- with these registers, and so many calls that had nothing to end
abbrev pub IsAs : List ℕ → ℕ → Point → Type 0
IsAs registers unbalanced point = (point.progress.registers ≡ registers) × (point.unbalanced ≡ unbalanced)

abbrev pub AreAs : List ℕ → ℕ → List Point → Type 0
AreAs registers unbalanced [] = Unit {0}
AreAs registers unbalanced (point ∷ points) = IsAs registers unbalanced point × AreAs registers unbalanced points

-- at each of these points fewer records were to come
abbrev pub AllBelow : ℕ → List Point → Type 0
AllBelow n [] = Unit {0}
AllBelow n (point ∷ points) = (point.to_come < n) × AllBelow n points

-- past the points before
pub past : (n : ℕ) (last : Point) (first points : List Point) → AllFrom n first
    → point_by n last (first ++ points) ≡ point_by n (last_of last first) points
past n last [] points all = refl
past n last (next ∷ first) points all = rw (le-leb n next.to_come all.0) (past n next first points all.1)

pub from_fewer : (n m : ℕ) (points : List Point) → m ≤ n → AllFrom n points → AllFrom m points
from_fewer n m [] fewer all = tt
from_fewer n m (point ∷ points) fewer all = (
  let here : n ≤ point.to_come =
      all.0 in omega (arith, here, fewer),
  from_fewer n m points fewer all.1,
)

module _ (registers : List ℕ) (unbalanced : ℕ) where
  still_as : (n : ℕ) (last : Point) (points : List Point) → IsAs registers unbalanced last → AllBelow n points
      → IsAs registers unbalanced (point_by n last points)
  still_as n last [] here below = here
  still_as n last (point ∷ points) here below = elim (leb_tells n point.to_come) [
    | inl more ↦ let less : point.to_come < n = below.0 in let it : n ≤ point.to_come = more.1 in absurd (omega (arith, less, it))
    | inr there ↦ rw there.0 here
  ]

  -- wherever among them the task stands
  pub as_by : (n : ℕ) (last : Point) (points later : List Point) → IsAs registers unbalanced last → AreAs registers unbalanced points
      → AllBelow n later
      → IsAs registers unbalanced (point_by n last (points ++ later))
  as_by n last [] later here each below = still_as n last later here below
  as_by n last (point ∷ points) later here each below = elim (leb_tells n point.to_come) [
    | inl more ↦ rw more.0 (as_by n point points later each.0 each.1 below)
    | inr there ↦ rw there.0 here
  ]

-- what an operation on memory adds
pub record Adds (before after : Standing) : Type 0 where
  pub points : List Point
  pub adds : after.way ≡ before.way ++ points
  pub each : AreAs before.progress.registers before.unbalanced points

pub operated_adds : (a : access.Access) (operation : Option Operation) (before : Standing) (records : List Record) (effect : Effect)
    (rest : List Record)
    → Adds before (operated a operation before records effect rest)
operated_adds a None before records effect rest = record { points = []; adds = sym (append-nil before.way); each = tt }
operated_adds a (Some operations.Load) before records effect rest = record { points = _; adds = refl; each = ((refl, refl), tt) }
operated_adds a (Some (operations.Add amount)) before records effect rest = record {
  points = _;
  adds = append_assoc before.way _ _;
  each = ((refl, refl), ((refl, refl), tt));
}
operated_adds a (Some (operations.Change change)) before records effect rest = record { points = _; adds = refl; each = ((refl, refl), tt) }
