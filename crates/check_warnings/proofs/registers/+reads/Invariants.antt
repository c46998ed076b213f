-- A statement of the block reads the register where one of those to come does.
use Rattle.std.proofs.Common.{◌≡◌, drop}
use Rattle.litmus_syntax.specs.Views.{block_of}
use Rattle.check_warnings.specs.Registers.{reads_in}
use Rattle.check_warnings.proofs.registers.+reads.Given as goal

abbrev pub invariant-reads_in-loop-statement : goal.invariant-reads_in-loop-statement
invariant-reads_in-loop-statement l =
    reads_in l.register (block_of (drop l.statement-index l.block)) ≡ reads_in l.register (block_of l.block)
