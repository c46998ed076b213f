-- Which lists of steps are of a run.
use Rattle.std.specs.Prelude.{ℕ, List, length, reverse}
use Rattle.slot_table.specs.Records.{Legal, records_of}
use Rattle.slot_table.specs.declared.records.Record.{Record}
use Rattle.executions.specs.execution.Ended.{HasEnded}
use Rattle.executions.specs.execution.Run.{AreItsSites, Run, first_words, task_of, task_setting}
use Rattle.program_order.specs.Waits.{WithinTurns}
use Rattle.program_order.specs.WrittenOrder.{WrittenOrder}

-- a task's own records, the latest first, are in the written order of its text
abbrev pub InWrittenOrder : Run → ℕ → List Record → Type 0
InWrittenOrder run task own =
    WrittenOrder (task_setting run task) (length (task_of run task).registers) (task_of run task).body
    (reverse own)

-- The list, the latest record first, is one of the run: from the words that its tasks share at first
-- each step gets its answer, each task makes its steps in the written order of its text and goes on
-- with no wait for longer than the turns, and tickets name the accesses of the program.
pub record Execution (run : Run) (records : List Record) : Type 0 where
  pub legal : Legal (first_words run) records
  pub tasks : (task : ℕ) → InWrittenOrder run task (records_of task records)
  pub within : (task : ℕ) → WithinTurns run.rules.turns (records_of task records)
  pub sites : AreItsSites run

-- each task has made the steps of its whole text
abbrev pub AllHaveEnded : Run → List Record → Type 0
AllHaveEnded run records = (task : ℕ) → HasEnded run task records
