-- The process of the number is read on, and written back.
use Rattle.std.proofs.Common.{◌≡◌, ◌∙◌, List, map, Some, refl, sym, ap}
use Rattle.std.specs.Prelude.{slice_get, option_map}
use Rattle.std.proofs.lemmas.List.{map-set}
use Rattle.std.proofs.lemmas.Option.{slice_get-map, slice_get_read}
use Rattle.litmus_lex.specs.Front.{symbols_left}
use Rattle.litmus_expression.specs.States.{State, state_of}
use Rattle.litmus_parse.specs.PropositionReader.{asked_of}
use Rattle.litmus_parse.proofs.Registers.{register_there}
use Rattle.litmus_parse.proofs.condition.Condition.register.Goals as goal

pub returns-clause-reads : goal.returns-clause-reads
returns-clause-reads c =
    let p = c.in-Some.process.now in
    let items = c.args.self.now.processes.items in
    let here = slice_get_read items _ c.args.task p refl c.in-Some.ensures.item.3.0 (c.in-Some.ensures.item.3.1 p) in
    let there : slice_get (map state_of items) c.args.task ≡ Some (state_of p) = slice_get-map state_of items c.args.task
    ∙ ap (option_map state_of) here in
    register_there c.args.task (asked_of c.args.self.now c.args.operators) (state_of p)
    (c.in_ok-register.register, state_of c.take_register.new.self) there
    c.in_ok-register.ensures.reads
    ∙ ap (λ (states : List State). Some (
      c.in_ok-register.register,
      record {
        symbols = symbols_left c.take_register.new.self.cursor;
        states = states;
        operators = c.args.operators;
      },
    )) (sym (map-set state_of items c.args.task c.take_register.new.self))
