-- What registers and variables hold at the end of a list of steps.
use Rattle.std.specs.Prelude.{◌≡◌, ◌↔◌, ◌*◌, ◌/◌, ◌%◌, ◌^◌, ◌==◌, ℕ, IsTrue, List, [], ◌∷◌, Option, None, Some, length, map, slice_get, unwrap_or}
use Rattle.std.specs.Prelude.{suc, if◌then◌else◌}
use Rattle.access_types.specs.History.{History, content}
use Rattle.access_types.specs.declared.history.Bytes.{Bytes}
use Rattle.litmus_semantics.specs.final_condition.Holds.{Holds, variable_of}
use Rattle.litmus_semantics.specs.declared.final_condition.condition.Finals.{Finals}
use Rattle.litmus_semantics.specs.Layout.{VariablePlace, block_of, bytes_of_variable, cells_of, memory_at_first}
use Rattle.litmus_semantics.specs.Values.{sign_extended}
use Rattle.litmus_step.specs.Readers.{AreRegisters}
use Rattle.litmus_step.specs.Runs.{tasks_of}
use Rattle.litmus_syntax.specs.declared.program.Variable.{Variable}
use Rattle.executions.specs.execution.Run.{Run}
use Rattle.executions.specs.execution.Execution.{Execution}
use Rattle.executions.specs.execution.Observed.{history_of}
use Rattle.run_output.specs.declared.finals.End.{End}
use Rattle.slot_table.specs.declared.records.Record.{Record}

-- the value of the variable of a number, with these places, where this history has ended: the content of its bytes,
-- with its sign, in 64 bits
abbrev pub variable_value : List VariablePlace → List Variable → History → ℕ → ℕ
variable_value places variables history number =
    sign_extended (bytes_of_variable places variables number).size
    (content (memory_at_first places variables) history (length history) (bytes_of_variable places variables number))

-- the value of a number among values, if these are there; 0 where there is none
abbrev pub value_among : Option (List ℕ) → ℕ → ℕ
value_among None number = 0
value_among (Some values) number = unwrap_or (slice_get values number) 0

-- the value of a register of a task, among those of all tasks
abbrev pub register_value : List (List ℕ) → ℕ → ℕ → ℕ
register_value registers task register = value_among (slice_get registers task) register

-- these are the registers of the tasks from a number on, by the list
abbrev pub AreRegistersFrom : {run : Run} {records : List Record} → Execution run records → ℕ → List (List ℕ) → Type 0
AreRegistersFrom list task [] = Unit {0}
AreRegistersFrom list task (values ∷ more) = AreRegisters list task values × AreRegistersFrom list (suc task) more

-- these are the registers of all tasks
pub record AreAllRegisters {run : Run} {records : List Record} (list : Execution run records) (registers : List (List ℕ)) :
    Type 0 where
  pub all : length registers ≡ tasks_of run
  pub each : AreRegistersFrom list 0 registers

-- the condition of the program holds where the list ends, by the registers of its tasks and the values of its variables
pub record HoldsAtEnd {run : Run} {records : List Record} (list : Execution run records) : Type 0 where
  pub registers : List (List ℕ)
  pub registers_are : AreAllRegisters list registers
  pub holds : Holds (register_value registers) (variable_value run.places run.program.variables (history_of list))
      run.program.condition

-- registers and variables hold this where the list ends
pub record AreFinals {run : Run} {records : List Record} (list : Execution run records) (finals : Finals) : Type 0 where
  pub registers : AreAllRegisters list (map (λ values. values.items) finals.registers.items)
  pub variables : (number : ℕ) → variable_of finals number ≡ variable_value run.places run.program.variables (history_of list) number

-- what registers and variables hold where the list ends, and whether the condition of the program holds there
pub record IsEndOf {run : Run} {records : List Record} (list : Execution run records) (end : End) : Type 0 where
  pub finals : AreFinals list end.finals
  pub held : IsTrue end.held ↔ HoldsAtEnd list

-- the word of the cell at an address, where the cells at these addresses hold these words; 0 where there is none
abbrev pub word_at : (cells words : List ℕ) → ℕ → ℕ
word_at [] words addr = 0
word_at (cell ∷ cells) [] addr = 0
word_at (cell ∷ cells) (word ∷ words) addr = if cell == addr then word else word_at cells words addr

-- the value of some bytes in the word of their cell, with its sign, in 64 bits
abbrev pub value_of : (cells words : List ℕ) → Bytes → ℕ
value_of cells words bytes =
    sign_extended bytes.size (word_at cells words (block_of bytes.addr) / 2 ^ (8 * (bytes.addr % 8)))

-- the value of the variable of a number, with these places, where the cells hold these words
abbrev pub value_in_cells : List VariablePlace → List Variable → (words : List ℕ) → ℕ → ℕ
value_in_cells places variables words number =
    value_of (cells_of places variables) words (bytes_of_variable places variables number)
