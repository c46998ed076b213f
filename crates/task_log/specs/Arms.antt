-- Armings with their remove and takings with their tell, as a task's steps say them. Between an
-- insertion and its remove a task names and settles nothing of another watchpoint.
use Rattle.std.specs.Prelude.{◌==◌, ℕ, List, [], ◌∷◌, ◌++◌, Option, Some, count_by, unwrap_or}
use Rattle.access_types.specs.Arms.{Arm}
use Rattle.access_types.specs.Takes.{Take}
use Rattle.access_types.specs.declared.arms.ArmOutcome.TheVariants.{Quiet}
use Rattle.setup_access.specs.declared.outcome.Outcome.{Outcome}
use Rattle.setup_access.specs.declared.outcome.Outcome.TheVariants.{Told}
use Rattle.slot_table.specs.declared.step.Step.{Step}
use Rattle.slot_table.specs.declared.step.Step.TheVariants.{Remove, Tell}
use Rattle.task_log.specs.Noted.{armed, became, last_of, named}
use Rattle.task_log.specs.declared.noted.Noted.{Noted}

-- the ticket by which a setter last named itself
abbrev pub setter_named : List Noted → ℕ
setter_named own = unwrap_or (last_of named own) 0

-- the arming that a task removes after its steps, the latest first, and after these armings
abbrev pub arm_removed : ℕ → List Noted → List Arm → Arm
arm_removed index own before = record {
  setter = setter_named own;
  number = count_by (λ (arm : Arm). arm.setter == setter_named own) before;
  index = index;
  watch_word = unwrap_or (last_of armed own) 0;
  outcome = unwrap_or (last_of became own) Quiet;
}

abbrev pub arms_at : Step → List Noted → List Arm → List Arm
arms_at (Remove index) earlier before = before ++ arm_removed index earlier before ∷ []
arms_at step earlier before = before

-- the armings that are over in a task's steps, the latest first, in the order of their removes
abbrev pub arms_of : List Noted → List Arm
arms_of [] = []
arms_of (latest ∷ earlier) = arms_at latest.step earlier (arms_of earlier)

-- the setter that a finder told, by what came of its check
abbrev pub setter_told : Option Outcome → ℕ
setter_told (Some (Told pair)) = pair.setter
setter_told outcome = 0

abbrev pub takes_at : Step → Option Outcome → List Take → List Take
takes_at (Tell index ticket) outcome before =
    before ++ record { finder = ticket; index = index; setter = setter_told outcome } ∷ []
takes_at step outcome before = before

-- the takings that are over in a task's steps, the latest first, in the order of their tells
abbrev pub takes_of : List Noted → List Take
takes_of [] = []
takes_of (latest ∷ earlier) = takes_at latest.step latest.outcome (takes_of earlier)
