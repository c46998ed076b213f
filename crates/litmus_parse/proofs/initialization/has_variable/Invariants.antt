-- No parameter that was passed is the variable.
use Rattle.std.proofs.Common.{◌≡◌, length, map}
use Rattle.litmus_expression.specs.States.{parameter_of}
use Rattle.litmus_parse.specs.ParameterReader.{has_variable}
use Rattle.litmus_parse.proofs.initialization.has_variable.Given as goal

abbrev pub invariant-loop-parameters : goal.invariant-loop-parameters
invariant-loop-parameters l = has_variable (map parameter_of l.parameters) l.variable
    ≡ has_variable (map parameter_of l.initial.parameters) l.variable

abbrev pub decreases-loop-parameters : goal.decreases-loop-parameters
decreases-loop-parameters l = length l.parameters
