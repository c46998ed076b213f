-- What a trace of an execution says.
use Rattle.std.specs.Prelude.{All, List}
use Rattle.access_types.specs.Arms.{Arm}
use Rattle.access_types.specs.Stamped.{Stamped}
use Rattle.access_types.specs.Takes.{Take}
use Rattle.accepted_traces.specs.Parts.{HasLowMask}
use Rattle.executions.specs.execution.Run.{Run}
use Rattle.executions.specs.execution.Execution.{Execution}
use Rattle.log_correctness.specs.Lists.{AreAccesses, AreArms, AreTakes}
use Rattle.slot_table.specs.declared.records.Record.{Record}

-- These are the accesses, the armings and the takings of an execution that are over, one task after the other. The
-- masks have 64 bits.
pub record AreOf {run : Run} {records : List Record} (list : Execution run records) (accesses : List Stamped)
    (arms : List Arm) (takes : List Take) : Type 0 where
  pub accesses_are : AreAccesses list accesses
  pub arms_are : AreArms list arms
  pub takes_are : AreTakes list takes
  pub masks : All HasLowMask accesses
