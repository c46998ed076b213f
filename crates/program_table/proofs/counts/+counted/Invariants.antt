-- The statements counted so far and those to come are all.
use Rattle.std.proofs.Common.{◌≡◌, ◌<◌, ◌+◌, ◌^◌, drop}
use Rattle.litmus_syntax.specs.Limits.{block_count}
use Rattle.litmus_syntax.specs.Views.{block_of}
use Rattle.program_table.specs.Counts.{capped}
use Rattle.program_table.proofs.counts.+counted.Given as goal

abbrev pub invariant-in_block-loop-statement : goal.invariant-in_block-loop-statement
invariant-in_block-loop-statement l = record {
  small : l.all < 2 ^ 64;
  counted : capped (l.all + block_count (block_of (drop l.statement-index l.block))) ≡ capped (block_count (block_of l.block));
}
