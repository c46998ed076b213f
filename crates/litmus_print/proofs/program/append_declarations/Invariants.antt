-- The text so far and that of the registers to come are the text of all.
use Rattle.std.proofs.Common.{◌≡◌, ◌++◌, drop}
use Rattle.std.specs.String.{string_bytes}
use Rattle.litmus_syntax.specs.PrintedForm.{declarations}
use Rattle.litmus_print.proofs.program.append_declarations.Given as goal

abbrev pub invariant-loop-register : goal.invariant-loop-register
invariant-loop-register l =
    string_bytes l.text ++ declarations (drop l.register-index l.registers) ≡ string_bytes l.initial.text ++ declarations l.registers
