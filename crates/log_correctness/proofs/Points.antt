-- Where a task stood, by the points of its way.
use Rattle.std.proofs.Common.{◌≡◌, ◌∙◌, ◌<◌, ◌≤◌, ◌++◌, ◌∷◌, [], inl, inr, ℕ, List, arith, refl}
use Rattle.std.proofs.lemmas.Bool.{le-leb}
use Rattle.std.proofs.lemmas.Bool.Decides.{leb_tells}
use Rattle.access_types.specs.declared.history.Happening.{Happening}
use Rattle.executions.proofs.execution.DoneOnlyGrows.{Chain}
use Rattle.task_run.specs.Position.{AllFrom, last_of}
use Rattle.program_order.specs.Standing.{Point, point_by}
use Rattle.executions.proofs.observation_determinism.Falling.{AllUpTo, IsFalling}

pub from_fewer : (n m : ℕ) (points : List Point) → m ≤ n → AllFrom n points → AllFrom m points
from_fewer n m [] fewer all = tt
from_fewer n m (point ∷ points) fewer all = (let here : n ≤ point.to_come = all.0 in omega (arith, here, fewer), from_fewer n m points fewer all.1)

pub from_both : (n : ℕ) (first later : List Point) → AllFrom n first → AllFrom n later → AllFrom n (first ++ later)
from_both n [] later one two = two
from_both n (point ∷ first) later one two = (one.0, from_both n first later one.1 two)

-- past the points before
pub past : (n : ℕ) (last : Point) (first points : List Point) → AllFrom n first → point_by n last (first ++ points) ≡ point_by n (last_of last first) points
past n last [] points all = refl
past n last (next ∷ first) points all = rw (le-leb n next.to_come all.0) (past n next first points all.1)

-- none of the points is there yet
pub stands_still : (n m : ℕ) (last : Point) (points : List Point) → AllUpTo m points → m < n → point_by n last points ≡ last
stands_still n m last [] all above = refl
stands_still n m last (point ∷ points) all above = elim (leb_tells n point.to_come) [
  | inl more ↦ let it : n ≤ point.to_come = more.1 in let few : point.to_come ≤ m = all.0 in absurd (omega (arith, it, few, above))
  | inr there ↦ rw there.0 refl
]

pub goes_on : (n : ℕ) (last point : Point) (points : List Point) → n ≤ point.to_come → point_by n last (point ∷ points) ≡ point_by n point points
goes_on n last point points below = rw (le-leb n point.to_come below) refl

-- before a point that isn't there yet
pub before_end : (n : ℕ) (last : Point) (points : List Point) (end : Point) (later : List Point) → end.to_come < n
    → point_by n last (points ++ end ∷ later) ≡ point_by n last points
before_end n last [] end later below = elim (leb_tells n end.to_come) [
  | inl more ↦ let it : n ≤ end.to_come = more.1 in absurd (omega (arith, it, below))
  | inr there ↦ rw there.0 refl
]
before_end n last (point ∷ points) end later below = elim (leb_tells n point.to_come) [
  | inl more ↦ rw more.0 (before_end n point points end later below)
  | inr there ↦ rw there.0 refl
]

pub up_to_end : (n : ℕ) (last : Point) (points : List Point) (end : Point) (later : List Point) → AllFrom n points → n ≤ end.to_come
    → point_by n last (points ++ end ∷ later) ≡ point_by n end later
up_to_end n last points end later all below = past n last points (end ∷ later) all ∙ goes_on n (last_of last points) end later below

-- so it is wherever it stood
abbrev pub EachDid : (List Happening → Type 0) → List Point → Type 0
EachDid P [] = Unit {0}
EachDid P (point ∷ points) = P point.progress.did × EachDid P points

pub each_at : (P : List Happening → Type 0) (n : ℕ) (last : Point) (points : List Point) → P last.progress.did → EachDid P points
    → P (point_by n last points).progress.did
each_at P n last [] here each = here
each_at P n last (point ∷ points) here each = elim (leb_tells n point.to_come) [
  | inl more ↦ rw more.0 (each_at P n point points each.0 each.1)
  | inr there ↦ rw there.0 here
]

pub chain_after : (last : Point) (first points : List Point) → Chain last (first ++ points) → Chain (last_of last first) points
chain_after last [] points chain = chain
chain_after last (next ∷ first) points chain = chain_after next first points chain.1

pub falls_after : (first points : List Point) → IsFalling (first ++ points) → IsFalling points
falls_after [] points falls = falls
falls_after (next ∷ first) points falls = falls_after first points falls.1
