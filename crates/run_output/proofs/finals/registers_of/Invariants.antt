-- The registers of the tasks so far.
use Rattle.std.proofs.Common.{◌≡◌, List, length, map}
use Rattle.executions.specs.execution.Run.{Run}
use Rattle.run_output.proofs.finals.registers_of.Given as goal
use Rattle.run_output.specs.Finals.{AreRegistersFrom}
use Rattle.slot_table.specs.declared.records.Record.{Record}

abbrev pub invariant-loop-task : goal.invariant-loop-task
invariant-loop-task g l =
    (length l.registers.items ≡ l.task)
    × ((run : Run) (records : List Record) → (comes : g.R.Ran.comes_of l.ran run records)
    → AreRegistersFrom (g.R.Ran.list_of l.ran run records comes) 0 (map (λ values. values.items) l.registers.items))
