-- From 8 bytes on nothing is lost.
use Rattle.std.proofs.Common.{arith}
use Rattle.litmus_semantics.proofs.Ranges.{cut_of_wide}
use Rattle.litmus_semantics.proofs.value.cut.Goals as goal

pub returns-else-size-lt8 : goal.returns-else-size-lt8
returns-else-size-lt8 c = cut_of_wide c.args.size c.args.value (omega arith) (omega arith)
