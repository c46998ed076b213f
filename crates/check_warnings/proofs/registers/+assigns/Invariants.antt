-- A statement of the block assigns the register where one of those to come does.
use Rattle.std.proofs.Common.{◌≡◌, drop}
use Rattle.litmus_syntax.specs.Views.{block_of}
use Rattle.check_warnings.specs.Registers.{assigns_in}
use Rattle.check_warnings.proofs.registers.+assigns.Given as goal

abbrev pub invariant-assigns_in-loop-statement : goal.invariant-assigns_in-loop-statement
invariant-assigns_in-loop-statement l =
    assigns_in l.register (block_of (drop l.statement-index l.block)) ≡ assigns_in l.register (block_of l.block)
