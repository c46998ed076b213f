-- No more blocks than statements stand in one another.
use Rattle.std.proofs.Common.{arith}
use Rattle.litmus_syntax.specs.Views.{block_of}
use Rattle.program_table.proofs.NestingLemmas.{few_blocks_in}
use Rattle.program_table.proofs.nesting.open_blocks.Goals as goal

pub returns : goal.returns
returns c =
    omega (arith, c.saturating_add.ensures, c.blocks_in.ensures, few_blocks_in (block_of c.args.body.now), c.requires.statements)
