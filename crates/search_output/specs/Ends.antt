-- Lists of a run that end alike.
use Rattle.std.specs.Prelude.{◌≡◌, ◌↔◌, ℕ, List}
use Rattle.litmus_semantics.specs.final_condition.Holds.{register_of, variable_of}
use Rattle.litmus_semantics.specs.declared.final_condition.condition.Finals.{Finals}
use Rattle.run_output.specs.Finals.{AreFinals, HoldsAtEnd}
use Rattle.litmus_step.specs.Runs.{HasEnded}
use Rattle.executions.specs.execution.Run.{Run, first_words}
use Rattle.executions.specs.execution.Execution.{Execution}
use Rattle.search_text.specs.States.{state_text}
use Rattle.slot_table.specs.Records.{words_after}
use Rattle.slot_table.specs.Words.{but_clock}
use Rattle.slot_table.specs.declared.records.Record.{Record}

-- The records lead to the words to which the others do, but for the clock, and each task that has ended behind the
-- records has ended behind the others, with the same registers.
pub record EndAlike (run : Run) (records others : List Record) : Type 0 where
  pub words : but_clock (words_after (first_words run) records) ≡ but_clock (words_after (first_words run) others)
  pub ends : (task : ℕ) (one : HasEnded run task records)
      → (also : HasEnded run task others) × (also.end.progress.registers ≡ one.end.progress.registers)

-- Where both lists end, registers and variables hold the same, the texts of that are one, and the condition holds at
-- both or at none.
pub record EndTheSame {run : Run} {records others : List Record} (list : Execution run records) (other : Execution run others) : Type 0 where
  pub finals : (finals : Finals) → AreFinals list finals → AreFinals other finals
  pub states : (finals shown : Finals) → AreFinals list finals → AreFinals other shown
      → state_text run.program (register_of finals) (variable_of finals) ≡ state_text run.program (register_of shown) (variable_of shown)
  pub holds : HoldsAtEnd list ↔ HoldsAtEnd other
