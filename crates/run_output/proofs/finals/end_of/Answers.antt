-- what is looked at is what registers and variables hold
use Rattle.std.proofs.Common.{map, subst, sym}
use Rattle.litmus_semantics.specs.final_condition.Holds.{Holds}
use Rattle.litmus_step.specs.Runs.{run_of}
use Rattle.litmus_syntax.specs.Views.{proposition_of}
use Rattle.prepared_program.specs.program_layout.Places.{places_of}
use Rattle.executions.specs.execution.Observed.{history_of}
use Rattle.run_output.proofs.FinalLemmas.{all_registers_same, holds_alike, holds_back, registers_same}
use Rattle.run_output.proofs.finals.end_of.Goals as goal
use Rattle.run_output.specs.Finals.{AreAllRegisters, register_value, variable_value}

pub returns : goal.returns
returns g c = λ settings sites records comes prepared.
    let run = run_of c.args.program.now settings sites in
    let list = g.R.Ran.list_of c.args.ran.now run records comes in
    let finals = c.in_ok-finals.finals in
    let p = proposition_of c.args.program.now.condition in
    let registers = map (λ values. values.items) finals.registers.items in
    let are = subst (λ all. AreAllRegisters list (map (λ values. values.items) all.items)) (sym c.in_ok-finals.ensures.registers)
    (c.in_ok-registers.ensures run records comes) in
    let variables = variable_value (places_of settings.places.items) c.args.program.now.variables (history_of list) in
    let told = c.in_ok-finals.ensures.variables c.args.program.now settings sites records list c.requires prepared
    (c.memory.ensures run records comes) in
    record {
      finals = record { registers = are; variables = told };
      held = (
        λ held. record {
          registers = registers;
          registers_are = are;
          holds = holds_alike _ _ _ _ (registers_same finals) told p (c.holds-held.ensures.0 held);
        },
        λ at_end. c.holds-held.ensures.1 (holds_back _ _ _ _ (registers_same finals) told p
            (subst (λ values. Holds (register_value values) variables p)
            (all_registers_same list _ _ at_end.registers_are are) at_end.holds)),
      );
    }
