-- One variable more.
use Rattle.std.proofs.Common.{◌≡◌, ◌∙◌, ◌+◌, ◌<◌, ◌++◌, ◌∷◌, ℕ, [], List, add-one, ap, append_assoc, arith, drop, drop-cons, get_or, length, suc, sym}
use Rattle.access_types.specs.declared.history.Bytes.{Bytes}
use Rattle.litmus_semantics.specs.Layout.{VariablePlace, bytes_at, initial_value, initial_values}
use Rattle.litmus_syntax.specs.declared.program.Variable.{Variable}
use Rattle.prepared_program.specs.program_layout.Places.{places_of}
use Rattle.prepared_program.proofs.program_layout.layout.Layout.new.Goals as goal

laid_more : (places : List VariablePlace) (variables : List Variable) (number : ℕ) (variable : Variable) (bytes : Bytes) (value : ℕ)
    (laid more all : List (Bytes × ℕ)) → number < length variables → variable ≡ get_or variables number variable
    → bytes ≡ bytes_at places number variable → value ≡ initial_value variable.contents → more ≡ laid ++ (bytes, value) ∷ []
    → laid ++ initial_values places number (drop number variables) ≡ all
    → more ++ initial_values places (number + 1) (drop (number + 1) variables) ≡ all
laid_more places variables number variable bytes value laid more all within is bytes_are value_is longer so_far =
    let left : drop number variables ≡ variable ∷ drop (suc number) variables =
    drop-cons variables number variable within ∙ ap (λ (v : Variable). v ∷ drop (suc number) variables) (sym is) in
    rw (add-one, longer, append_assoc, bytes_are, value_is)
    (sym (ap (λ (rest : List Variable). laid ++ initial_values places number rest) left) ∙ so_far)

pub loop-number-preserved : goal.loop-number-preserved
loop-number-preserved c = record {
  room = omega (arith, c.push_reserved.ensures.capacity, c.loop-number.invariant.room);
  made = omega (arith, c.push_reserved.ensures.len, c.loop-number.invariant.made);
  laid = laid_more (places_of c.args.places.now) c.args.variables.now c.loop-number.number c.index-variables-number.result
      c.bytes_at-bytes.result c.initial_value.result c.loop-number.laid.items c.push_reserved.new.self.items _
      c.loop-number-test.true c.index-variables-number.is c.bytes_at-bytes.ensures c.initial_value.ensures
      c.push_reserved.ensures.items c.loop-number.invariant.laid;
}
