-- Where a task of a run stands by its records in a list: at the end of its text, or in a wait that has gone on too
-- long.
use Rattle.std.specs.Prelude.{ℕ, List, length, reverse}
use Rattle.slot_table.specs.Records.{records_of}
use Rattle.slot_table.specs.declared.records.Record.{Record}
use Rattle.executions.specs.execution.Run.{Run, task_of, task_setting}
use Rattle.program_order.specs.Waits as waits
use Rattle.program_order.specs.WrittenOrder.{SpellsAll}

-- how many tasks a run has
abbrev pub tasks_of : Run → ℕ
tasks_of run = length run.program.tasks

-- by its records in the list a task has made the steps of its whole text
abbrev pub HasEnded : Run → ℕ → List Record → Type 0
HasEnded run task records =
    SpellsAll (task_setting run task) (length (task_of run task).registers) (task_of run task).body
    (reverse (records_of task records))

-- by its records in the list a task is in a wait that had as many failed tries as are allowed
abbrev pub IsStuck : Run → ℕ → List Record → Type 0
IsStuck run task records =
    waits.IsStuck (task_setting run task) (length (task_of run task).registers) (task_of run task).body
    (reverse (records_of task records))
