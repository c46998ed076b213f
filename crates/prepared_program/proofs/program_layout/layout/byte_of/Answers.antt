-- The bytes of a value end after 8.
use Rattle.std.proofs.Common.{◌<◌, ◌≤◌, ◌^◌, ◌%◌, ℕ, ap, arith, sym}
use Rattle.std.proofs.Math.Nat.{div-eq_of_lt}
use Rattle.litmus_semantics.proofs.Ranges.{range_above_zero, range_small, range_wide}
use Rattle.prepared_program.proofs.program_layout.layout.byte_of.Goals as goal

pub pow-requires : goal.pow-requires
pow-requires c = omega (arith, range_small c.args.offset c.if-offset-lt8.true)

pub nonzero_div-result : goal.nonzero_div-result
nonzero_div-result c = rw c.pow.ensures (range_above_zero c.args.offset)

pub returns-else-offset-lt8 : goal.returns-else-offset-lt8
returns-else-offset-lt8 c =
    let wide : 2 ^ 64 ≤ 256 ^ c.args.offset = range_wide c.args.offset c.if-offset-lt8.false in
    let within : c.args.value < 256 ^ c.args.offset = omega arith in
    sym (ap (λ (n : ℕ). n % 256) (div-eq_of_lt within))
