-- Where the loops fit and the accesses are few, those counted so far and those of the statements to come are all.
use Rattle.std.proofs.Common.{◌≡◌, ◌≤◌, ◌+◌, drop}
use Rattle.litmus_semantics.specs.TextSites.{AllLoopsFit}
use Rattle.litmus_syntax.specs.Limits.{block_repeats}
use Rattle.litmus_syntax.specs.Views.{block_of}
use Rattle.prepared_program.proofs.program_sites.accesses.+begun.Given as goal

abbrev pub invariant-in_block-loop-statement : goal.invariant-in_block-loop-statement
invariant-in_block-loop-statement l =
    AllLoopsFit l.times (block_of l.block) → block_repeats l.times (block_of l.block) ≤ 1024
    → AllLoopsFit l.times (block_of (drop l.statement-index l.block))
    × (l.all + block_repeats l.times (block_of (drop l.statement-index l.block)) ≡ block_repeats l.times (block_of l.block))
