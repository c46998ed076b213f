-- What came of a run on threads, by the one list of all steps.
use Rattle.std.specs.Prelude.{◌≡◌, ◌<◌, ℕ, IfErr, IfOk, IsErrOf, List, Result, Some, length, slice_get}
use Rattle.access_types.specs.Sites.{AccessMap}
use Rattle.litmus_step.specs.Kept.{AreLogs}
use Rattle.litmus_step.specs.Readers.{AreRegisters}
use Rattle.litmus_step.specs.Runs.{CanBeMade, run_of, tasks_of}
use Rattle.prepared_program.specs.declared.program_sites.settings.Settings.{Settings}
use Rattle.litmus_syntax.specs.declared.program.Program.{Program}
use Rattle.soundness.specs.Headline.{Headline}
use Rattle.log_correctness.specs.Setters.{AreReports}
use Rattle.executions.specs.execution.Run.{Run, first_words}
use Rattle.executions.specs.execution.Execution.{AllHaveEnded, Execution}
use Rattle.log_correctness.specs.Totals.{IsUnbalanced}
use Rattle.prepared_program.specs.declared.program_sites.error.RunError.{RunError}
use Rattle.prepared_program.specs.declared.program_sites.error.RunError.TheVariants.{Stuck}
use Rattle.runner.specs.TaskResult.{IsFailedWait, IsOfThreads, IsThrough}
use Rattle.runner.specs.Hits.{AllHitsOverlap}
use Rattle.runner.specs.declared.result.RunResult.{RunResult}
use Rattle.runner.specs.declared.run.RunIndex.{RunIndex}
use Rattle.shared_table.specs.Ended.{IsListOf}
use Rattle.slot_table.specs.Records.{words_after}
use Rattle.slot_table.specs.declared.records.Record.{Record}

-- What came of a run is what the list of all its steps gives, of which the gathered seats know. The headline holds of
-- the list, and the two sides of each hit overlap by their stamps.
pub record IsOf {run : Run} {records : List Record} (list : Execution run records) (result : RunResult) : Type 0 where
  pub can : CanBeMade run
  pub ended : AllHaveEnded run records
  pub headline : Headline list
  pub hits_overlap : AllHitsOverlap list
  pub gathered : IsListOf result.gathered records
  pub logs : AreLogs list result.logs.items
  pub reports : AreReports list result.reports.items
  pub registers : (task : ℕ) (values : _) → slice_get result.registers.items task ≡ Some values → AreRegisters list task values.items
  pub tasks : length result.registers.items ≡ tasks_of run
  pub unbalanced : IsUnbalanced list result.unbalanced
  pub memory : result.gathered.cells ≡ (words_after (first_words run) records).cells

-- Some list of steps of the program under these settings is the one.
pub record IsRunOnce (program : Program) (settings : Settings) (result : RunResult) : Type 0 where
  pub sites : AccessMap
  pub records : List Record
  pub list : Execution (run_of program settings sites) records
  pub is_of : IsOf list result

-- What comes of a run of the program of a turn: a result of some list of its steps, under the number of the turn, or
-- why threads make none of it. Of several tasks that are stuck the smallest is named.
pub record IsResultOf (program : Program) (settings : Settings) (turn : RunIndex) (outcome : Result RunResult RunError) : Type 0 where
  pub once : IfOk outcome (IsRunOnce program settings)
  pub number : IfOk outcome (λ result. result.number ≡ turn.number)
  pub errors : IfErr outcome IsOfThreads
  pub stuck : (task : ℕ) → IsErrOf outcome (Stuck task) → (sites : AccessMap) × IsFailedWait (run_of program settings sites) task
      × ((below : ℕ) → below < task → IsThrough (run_of program settings sites) below)

-- so it is of each turn, in their order
pub record AreResultsOf (program : Program) (settings : Settings) (turns : List RunIndex) (outcomes : List (Result RunResult RunError)) :
    Type 0 where
  pub many : length outcomes ≡ length turns
  pub each : (at : ℕ) (turn : RunIndex) (outcome : Result RunResult RunError) → slice_get turns at ≡ Some turn → slice_get outcomes at ≡ Some outcome
      → IsResultOf program settings turn outcome
