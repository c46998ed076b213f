-- The deepest of the statements so far and of those to come is the deepest of all.
use Rattle.std.proofs.Common.{◌≡◌, ◌<◌, ◌^◌, drop}
use Rattle.std.specs.Prelude.{max}
use Rattle.litmus_syntax.specs.Views.{block_of}
use Rattle.program_table.specs.Counts.{capped}
use Rattle.program_table.specs.Nesting.{blocks_in}
use Rattle.program_table.proofs.nesting.+blocks.Given as goal

abbrev pub invariant-blocks_in-loop-statement : goal.invariant-blocks_in-loop-statement
invariant-blocks_in-loop-statement l = record {
  small : l.most < 2 ^ 64;
  deepest : capped (max l.most (blocks_in (block_of (drop l.statement-index l.block)))) ≡ capped (blocks_in (block_of l.block));
}
