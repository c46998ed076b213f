-- The text so far and that of the variables to come are the text of all.
use Rattle.std.proofs.Common.{◌≡◌, ◌++◌, drop}
use Rattle.std.specs.String.{string_bytes}
use Rattle.litmus_syntax.specs.PrintedForm.{items_text}
use Rattle.litmus_print.proofs.program.append_items.Given as goal

abbrev pub invariant-loop-variable : goal.invariant-loop-variable
invariant-loop-variable l =
    string_bytes l.text ++ items_text (drop l.variable-index l.variables) ≡ string_bytes l.initial.text ++ items_text l.variables
