-- So far the part stands there as often as the loop has turned.
use Rattle.std.proofs.Common.{◌≡◌, ◌++◌}
use Rattle.std.specs.String.{string_bytes}
use Rattle.litmus_syntax.specs.PrintedForm.{repeated}
use Rattle.litmus_print.proofs.expression.append_repeated.Given as goal

abbrev pub invariant-loop-turn : goal.invariant-loop-turn
invariant-loop-turn l = string_bytes l.text ≡ string_bytes l.initial.text ++ repeated l._turn l.part
