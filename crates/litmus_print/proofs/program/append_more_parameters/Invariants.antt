-- The text so far and that of the parameters to come are the text of all.
use Rattle.std.proofs.Common.{◌≡◌, ◌++◌, drop}
use Rattle.std.specs.String.{string_bytes}
use Rattle.litmus_syntax.specs.PrintedForm.{continued, parameter_texts}
use Rattle.litmus_print.proofs.program.append_more_parameters.Given as goal

abbrev pub invariant-loop-number : goal.invariant-loop-number
invariant-loop-number l =
    string_bytes l.text ++ continued (parameter_texts l.variables (drop l.number-index l.numbers))
    ≡ string_bytes l.initial.text ++ continued (parameter_texts l.variables l.numbers)
