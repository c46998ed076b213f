-- The two sides of a hit overlap, since a line of a true trace says so.
use Rattle.std.proofs.Common.{ℕ, List}
use Rattle.accepted_traces.specs.Parts.{ArmFits, OutcomeFits}
use Rattle.access_types.specs.Arms.{Arm}
use Rattle.access_types.specs.Stamped.{Stamped}
use Rattle.access_types.specs.declared.arms.ArmOutcome.{ArmOutcome}
use Rattle.access_types.specs.declared.arms.ArmOutcome.TheVariants.{Hit, Origin, Quiet}
use Rattle.runner.specs.Hits.{HitOverlaps}
use Rattle.watch_word.specs.declared.layout.Layout.{Layout}

pub arm_overlaps : (slots : ℕ) (layout : Layout) (accesses : List Stamped) (earlier : List Arm) (arm : Arm)
    → ArmFits slots layout accesses earlier arm → HitOverlaps accesses arm.setter arm.outcome
arm_overlaps slots layout accesses earlier arm fits = by arm.outcome fits.setter.holds.1
  where
    by : (outcome : ArmOutcome) → OutcomeFits slots layout accesses arm fits.setter.access outcome → HitOverlaps accesses arm.setter outcome
    by Quiet of = tt
    by Origin of = tt
    by (Hit finder result) of = record {
      access = fits.setter.access;
      named = fits.setter.named;
      holds = record { access = of.access; named = of.named; holds = of.holds.at_once };
    }
