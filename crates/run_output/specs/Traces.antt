-- The trace of a list of steps, and that it is to be accepted.
use Rattle.std.specs.Prelude.{◌≡◌, ℕ, List}
use Rattle.access_types.specs.Arms.{Arm}
use Rattle.access_types.specs.Stamped.{Stamped}
use Rattle.access_types.specs.Takes.{Take}
use Rattle.report_text.specs.TraceText.{written_trace}
use Rattle.executions.specs.execution.Run.{Run}
use Rattle.executions.specs.execution.Execution.{Execution}
use Rattle.log_correctness.specs.Lists.{AreAccesses, AreArms, AreTakes}
use Rattle.slot_table.specs.declared.records.Record.{Record}
use Rattle.trace_replay.specs.Answer.{IsAccepted}
use Rattle.trace_replay.specs.declared.accepted.Accepted.{Accepted}
use Rattle.access_types.specs.declared.report.Report.{Report}
use Rattle.prepared_program.specs.declared.program_sites.settings.Settings.{Settings}

-- the bytes are the trace of the list's accesses, armings and takings, with these reports, under these settings
pub record IsTraceOf (settings : Settings) {run : Run} {records : List Record} (list : Execution run records) (reports : List Report)
    (bytes : List ℕ) : Type 0 where
  pub accesses : List Stamped
  pub accesses_are : AreAccesses list accesses
  pub arms : List Arm
  pub arms_are : AreArms list arms
  pub takes : List Take
  pub takes_are : AreTakes list takes
  pub spelled : bytes ≡ written_trace settings.slots settings.layout accesses arms takes reports

-- `replay` answers of the bytes that they are a true trace, if it has memory
abbrev pub IsToBeAccepted : List ℕ → Type 0
IsToBeAccepted bytes = (counts : Accepted) × IsAccepted bytes counts
