-- Lists that end with the same registers and variables.
use Rattle.std.proofs.Common.{◌≡◌, ◌∙◌, ◌∷◌, [], ℕ, List, ap, refl, suc, sym}
use Rattle.litmus_semantics.specs.final_condition.Holds.{register_of, variable_of}
use Rattle.litmus_semantics.specs.declared.final_condition.condition.Finals.{Finals}
use Rattle.executions.specs.execution.Observed.{history_of}
use Rattle.program_order.specs.WrittenOrder.{stands_after}
use Rattle.run_output.proofs.FinalLemmas.{all_registers_same, holds_alike, registers_same}
use Rattle.run_output.specs.Finals.{AreAllRegisters, AreFinals, AreRegistersFrom, HoldsAtEnd, register_value, variable_value}
use Rattle.executions.specs.execution.Run.{Run}
use Rattle.executions.specs.execution.Execution.{Execution}
use Rattle.slot_table.specs.declared.records.Record.{Record}
use Rattle.search_output.specs.Ends.{EndTheSame}
use Rattle.search_text.specs.States.{state_text}

-- each task has the same registers where the lists end
abbrev pub SameRegisters : {run : Run} {records others : List Record} → Execution run records → Execution run others → Type 0
SameRegisters list other =
    (task : ℕ) → (stands_after (list.tasks task)).progress.registers ≡ (stands_after (other.tasks task)).progress.registers

-- each variable has the same value there
abbrev pub SameVariables : {run : Run} {records others : List Record} → Execution run records → Execution run others → Type 0
SameVariables {run = run} list other =
    (number : ℕ) → variable_value run.places run.program.variables (history_of list) number
    ≡ variable_value run.places run.program.variables (history_of other) number

module _ {run : Run} {records others : List Record} (list : Execution run records) (other : Execution run others)
    (registers : SameRegisters list other) (variables : SameVariables list other) where
  -- the registers of the one are those of the other
  carried_from : (from : ℕ) (all : List (List ℕ)) → AreRegistersFrom list from all → AreRegistersFrom other from all
  carried_from from [] are = tt
  carried_from from (values ∷ more) are = (are.0 ∙ registers from, carried_from (suc from) more are.1)

  pub carried : (all : List (List ℕ)) → AreAllRegisters list all → AreAllRegisters other all
  carried all are = record { all = are.all; each = carried_from 0 all are.each }

  pub holds_there : HoldsAtEnd list → HoldsAtEnd other
  holds_there holds = record {
    registers = holds.registers;
    registers_are = carried holds.registers holds.registers_are;
    holds = holds_alike (register_value holds.registers) (register_value holds.registers) _ _ (λ task number. refl) variables
        run.program.condition holds.holds;
  }

  pub finals_there : (finals : Finals) → AreFinals list finals → AreFinals other finals
  finals_there finals are = record {
    registers = carried _ are.registers;
    variables = λ number. are.variables number ∙ variables number;
  }

  module _ (finals shown : Finals) (one : AreFinals list finals) (also : AreFinals other shown) where
    register_same : (task number : ℕ) → register_of finals task number ≡ register_of shown task number
    register_same task number =
        registers_same finals task number
        ∙ (ap (λ (all : List (List ℕ)). register_value all task number)
        (all_registers_same other _ _ (carried _ one.registers) also.registers)
        ∙ sym (registers_same shown task number))

    variable_same : (number : ℕ) → variable_of finals number ≡ variable_of shown number
    variable_same number = one.variables number ∙ (variables number ∙ sym (also.variables number))

    pub state_same : state_text run.program (register_of finals) (variable_of finals)
        ≡ state_text run.program (register_of shown) (variable_of shown)
    state_same =
        let all_registers : register_of finals ≡ register_of shown = λ i task number. register_same task number i in
        let all_variables : variable_of finals ≡ variable_of shown = λ i number. variable_same number i in
        ap (λ (values : ℕ → ℕ → ℕ). state_text run.program values (variable_of finals)) all_registers
        ∙ ap (λ (values : ℕ → ℕ). state_text run.program (register_of shown) values) all_variables

pub end_the_same : {run : Run} {records others : List Record} (list : Execution run records) (other : Execution run others)
    → SameRegisters list other → SameVariables list other → EndTheSame list other
end_the_same list other registers variables = record {
  finals = finals_there list other registers variables;
  states = state_same list other registers variables;
  holds = (
    holds_there list other registers variables,
    holds_there other list (λ task. sym (registers task)) (λ number. sym (variables number)),
  );
}
