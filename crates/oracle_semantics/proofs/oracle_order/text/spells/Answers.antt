-- The task begins with nothing done, and no record is left.
use Rattle.std.proofs.Common.{◌≡◌, [], refl, replicate}
use Rattle.litmus_semantics.specs.Task.{Progress}
use Rattle.litmus_syntax.specs.Views.{block_of}
use Rattle.program_order.specs.Standing.{Standing}
use Rattle.program_order.specs.WrittenOrder.{StepsOfBlock, at_first}
use Rattle.oracle_semantics.proofs.oracle_order.text.spells.Goals as goal

pub returns : goal.returns
returns c = λ s given.
    let same : (at_first c.args.registers).progress ≡ record { did = c.new.result.items; registers = c.in_ok-zeroed.zeroed.items }
    = rw (c.new.ensures.items, c.in_ok-zeroed.ensures) refl in
    let end = c.in_ok-end.ensures s given (at_first c.args.registers) same in
    record { end = end.0; steps = rw (c.in_ok-from_slice.ensures.items, c.is_over.ensures c.if-not-is_over.false) at end.1 }
