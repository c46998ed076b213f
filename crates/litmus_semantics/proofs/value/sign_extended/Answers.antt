-- From 8 bytes on nothing is lost, and the sign stands already.
use Rattle.std.proofs.Common.{arith}
use Rattle.litmus_semantics.proofs.Ranges.{sign_extended_of_wide}
use Rattle.litmus_semantics.proofs.value.sign_extended.Goals as goal

pub returns-else-size-lt8 : goal.returns-else-size-lt8
returns-else-size-lt8 c = sign_extended_of_wide c.args.size c.args.value (omega arith) (omega arith)
