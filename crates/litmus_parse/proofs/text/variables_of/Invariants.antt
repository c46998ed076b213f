-- The variables so far and those to come are all.
use Rattle.std.proofs.Common.{◌≡◌, ◌++◌, length, map}
use Rattle.litmus_expression.specs.States.{parameter_of}
use Rattle.litmus_parse.specs.Grammar.{variable_of}
use Rattle.litmus_parse.proofs.text.variables_of.Given as goal

abbrev pub invariant-loop-parameters : goal.invariant-loop-parameters
invariant-loop-parameters l =
    l.variables.items ++ map variable_of (map parameter_of l.parameters) ≡ map variable_of (map parameter_of l.initial.parameters)

abbrev pub decreases-loop-parameters : goal.decreases-loop-parameters
decreases-loop-parameters l = length l.parameters
