-- The most of the statements so far and of those to come is the most of all.
use Rattle.std.proofs.Common.{◌≡◌, ◌<◌, ◌^◌, drop}
use Rattle.std.specs.Prelude.{max}
use Rattle.litmus_syntax.specs.Views.{block_of}
use Rattle.program_table.specs.Counts.{capped}
use Rattle.program_table.specs.Operators.{most_in_block}
use Rattle.program_table.proofs.operators.+most.Given as goal

abbrev pub invariant-most_in_block-loop-statement : goal.invariant-most_in_block-loop-statement
invariant-most_in_block-loop-statement l = record {
  small : l.most < 2 ^ 64;
  largest : capped (max l.most (most_in_block (block_of (drop l.statement-index l.block)))) ≡ capped (most_in_block (block_of l.block));
}
