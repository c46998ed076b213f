-- The watchpoints of a picture, and who took them.
use Rattle.std.specs.Prelude.{◌≡◌, List, MatchOption, None, Option}
use Rattle.access_types.specs.Arms.{Arm}
use Rattle.access_types.specs.Stamped.{Stamped}
use Rattle.access_types.specs.Takes.{Take}
use Rattle.access_types.specs.declared.arms.ArmOutcome.{ArmOutcome}
use Rattle.access_types.specs.declared.arms.ArmOutcome.TheVariants.{Quiet, Origin, Hit}
use Rattle.trace_replay.specs.Accesses.{IsNamed}
use Rattle.timeline.specs.declared.picture.watches.Taking.{Taking}
use Rattle.timeline.specs.declared.picture.watches.Watch.{Watch}

-- it is the access that took a watchpoint that came to this end: the one that is named there, or none
abbrev pub IsFinderOf : List Stamped → ArmOutcome → Option Stamped → Type 0
IsFinderOf accesses Quiet finder = finder ≡ None
IsFinderOf accesses Origin finder = finder ≡ None
IsFinderOf accesses (Hit ticket result) finder = MatchOption finder ((s : Stamped) → ¬ IsNamed accesses ticket s) (IsNamed accesses ticket)

-- the watchpoint is that of the arm, with the access that set it up, and the one that took it
pub record IsWatchOf (accesses : List Stamped) (arm : Arm) (watch : Watch) : Type 0 where
  pub arm_is : watch.arm ≡ arm
  pub setter_is : IsNamed accesses arm.setter watch.setter
  pub finder_is : IsFinderOf accesses arm.outcome watch.finder

-- it is the taking of the take, with the access that took, and the one that had set up
pub record IsTakingOf (accesses : List Stamped) (take : Take) (taking : Taking) : Type 0 where
  pub take_is : taking.take ≡ take
  pub finder_is : IsNamed accesses take.finder taking.finder
  pub setter_is : IsNamed accesses take.setter taking.setter
