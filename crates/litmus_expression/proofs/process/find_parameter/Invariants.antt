-- No parameter that was passed has the name.
use Rattle.std.proofs.Common.{◌≡◌, length}
use Rattle.std.specs.Prelude.{find}
use Rattle.litmus_lex.specs.Words.{is_same}
use Rattle.litmus_expression.proofs.process.find_parameter.Given as goal

abbrev pub invariant-loop-parameters : goal.invariant-loop-parameters
invariant-loop-parameters l =
    find (λ parameter. is_same parameter.name.now l.name) l.parameters ≡ find (λ parameter. is_same parameter.name.now l.name) l.initial.parameters

abbrev pub decreases-loop-parameters : goal.decreases-loop-parameters
decreases-loop-parameters l = length l.parameters
