-- What holds of the accesses, arms, takes and reports of a true trace.
use Rattle.std.specs.Prelude.{◌≡◌, ◌<◌, ℕ, List}
use Rattle.std.specs.List.{AllByRecursion}
use Rattle.access_types.specs.Arms.{Arm}
use Rattle.access_types.specs.Stamped.{Stamped}
use Rattle.access_types.specs.Takes.{Take}
use Rattle.access_types.specs.declared.report.Report.{Report}
use Rattle.access_types.specs.declared.report.Report.TheVariants.{Two, Unknown}
use Rattle.report_text.specs.Truth.{AreInProgressAtOnce}
use Rattle.trace_replay.specs.Accesses.{IsNamed}

-- the ticket names one access, which ends after it began
pub record NamesOnly (accesses : List Stamped) (ticket : ℕ) (s : Stamped) : Type 0 where
  pub names : IsNamed accesses ticket s
  pub only : (other : Stamped) → IsNamed accesses ticket other → other ≡ s
  pub ends_later : s.begin < s.end

-- the access of an arm is there
abbrev pub ArmHolds : List Stamped → Arm → Type 0
ArmHolds accesses arm = (s : Stamped) × IsNamed accesses arm.setter s

-- the accesses of a take are there
abbrev pub TakeHolds : List Stamped → Take → Type 0
TakeHolds accesses take = ((f : Stamped) × IsNamed accesses take.finder f) × ((s : Stamped) × IsNamed accesses take.setter s)

-- the accesses of a report are there, and those of a race were in progress at once
abbrev pub ReportHolds : List Stamped → Report → Type 0
ReportHolds accesses (Two setter finder seen) = (s : Stamped) × (f : Stamped)
    × NamesOnly accesses setter s × NamesOnly accesses finder f × AreInProgressAtOnce s f
ReportHolds accesses (Unknown setter old new) = (s : Stamped) × NamesOnly accesses setter s

pub record IsSound (accesses : List Stamped) (arms : List Arm) (takes : List Take) (reports : List Report) : Type 0 where
  pub arms_hold : AllByRecursion (ArmHolds accesses) arms
  pub takes_hold : AllByRecursion (TakeHolds accesses) takes
  pub reports_hold : AllByRecursion (ReportHolds accesses) reports
