-- A range of less than 8 bytes fits 64 bits.
use Rattle.std.proofs.Common.{arith}
use Rattle.litmus_semantics.proofs.Ranges.{range_above_zero, range_small}
use Rattle.litmus_semantics.proofs.value.values_in.Goals as goal

pub pow-requires : goal.pow-requires
pow-requires c = omega (arith, range_small c.args.size c.requires)

pub returns-clause-above_zero : goal.returns-clause-above_zero
returns-clause-above_zero c = rw c.pow.ensures (range_above_zero c.args.size)

pub returns-clause-below : goal.returns-clause-below
returns-clause-below c = rw c.pow.ensures (range_small c.args.size c.requires)
