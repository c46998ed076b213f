-- The two sides of each hit, whatever came of it.
use Rattle.std.specs.Prelude.{ℕ, All, List}
use Rattle.accepted_traces.specs.Parts.{OfNamed}
use Rattle.log_correctness.specs.Lists.{AreAccesses, AreArms, AreTakes}
use Rattle.executions.specs.execution.Run.{Run}
use Rattle.executions.specs.execution.Execution.{Execution}
use Rattle.access_types.specs.Arms.{Arm}
use Rattle.access_types.specs.Stamped.{Stamped}
use Rattle.access_types.specs.Takes.{Take}
use Rattle.access_types.specs.declared.arms.ArmOutcome.{ArmOutcome}
use Rattle.access_types.specs.declared.arms.ArmOutcome.TheVariants.{Hit, Origin, Quiet}
use Rattle.report_text.specs.Truth.{AreInProgressAtOnce, AreOneBag, hits_in, is_take}
use Rattle.slot_table.specs.declared.records.Record.{Record}

-- what became of an arming of this setter: where it was hit, also where the hit was dropped, the setter's and the
-- finder's ticket name two of these accesses, and each of the two began before the other's end by their stamps
abbrev pub HitOverlaps : List Stamped → (setter : ℕ) → ArmOutcome → Type 0
HitOverlaps accesses setter Quiet = Unit {0}
HitOverlaps accesses setter Origin = Unit {0}
HitOverlaps accesses setter (Hit finder result) = OfNamed accesses setter (λ s. OfNamed accesses finder (AreInProgressAtOnce s))

-- so it is of each of these armings, and these takings are their hits
pub record HitsOverlap (accesses : List Stamped) (arms : List Arm) (takes : List Take) : Type 0 where
  pub each_arm : All (λ arm. HitOverlaps accesses arm.setter arm.outcome) arms
  pub takings : AreOneBag is_take (hits_in arms) takes

-- so it is of the accesses, armings and takings of an execution that are over
abbrev pub AllHitsOverlap : {run : Run} {records : List Record} → Execution run records → Type 0
AllHitsOverlap list = (accesses : List Stamped) (arms : List Arm) (takes : List Take)
    → AreAccesses list accesses → AreArms list arms → AreTakes list takes → HitsOverlap accesses arms takes
