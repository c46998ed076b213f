-- The armings and takings of a task that are over, as an execution has them.
use Rattle.std.specs.Prelude.{◌==◌, ◌++◌, ℕ, List, [], ◌∷◌, Option, Some, if◌then◌else◌}
use Rattle.access_types.specs.Arms.{Arm}
use Rattle.access_types.specs.Takes.{Take}
use Rattle.slot_table.specs.Armings.{Arming, last_arming, named_at}
use Rattle.slot_table.specs.declared.records.Record.{Record}
use Rattle.slot_table.specs.declared.step.Step.{Step}
use Rattle.slot_table.specs.declared.step.Step.TheVariants.{Remove, Tell}

-- an arming that was removed: its index, its setter and word, and the ticket by which its setter had named
-- itself
pub record Removed : Type 0 where
  pub index : ℕ
  pub arming : Option Arming
  pub named : Option ℕ

-- a remove is of the last arming at its index
abbrev pub removed_at : Step → List Record → List Removed
removed_at (Remove index) earlier = record {
  index = index;
  arming = last_arming index earlier;
  named = named_at index earlier;
} ∷ []
removed_at step earlier = []

-- those that a task removed, in this order
abbrev pub removed_by : ℕ → List Record → List Removed
removed_by task [] = []
removed_by task (latest ∷ earlier) =
    removed_by task earlier ++ (if latest.task == task then removed_at latest.step earlier else [])

-- what is kept of an arming of a task says this of it
abbrev pub as_removed : ℕ → Arm → Removed
as_removed task arm = record {
  index = arm.index;
  arming = Some (record { setter = task; word = arm.watch_word });
  named = Some arm.setter;
}

-- a taking that was told: its index, and the ticket that its finder told
pub record ToldAt : Type 0 where
  pub index : ℕ
  pub finder : ℕ

abbrev pub told_at : Step → List ToldAt
told_at (Tell index ticket) = record { index = index; finder = ticket } ∷ []
told_at step = []

-- those that a task told of, in this order
abbrev pub told_by : ℕ → List Record → List ToldAt
told_by task [] = []
told_by task (latest ∷ earlier) =
    told_by task earlier ++ (if latest.task == task then told_at latest.step else [])

-- what is kept of a taking says this of it
abbrev pub as_told : Take → ToldAt
as_told take = record { index = take.index; finder = take.finder }
