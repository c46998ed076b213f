-- Where the loops fit, what was found so far and the sites of the statements to come are all.
use Rattle.std.proofs.Common.{◌≡◌, ◌++◌, drop, map}
use Rattle.litmus_semantics.specs.TextSites.{AllLoopsFit, block_by, bytes_among, repeated}
use Rattle.litmus_syntax.specs.Views.{block_of}
use Rattle.litmus_semantics.proofs.site.+sites.Given as goal

abbrev pub invariant-add_block-loop-statement : goal.invariant-add_block-loop-statement
invariant-add_block-loop-statement l =
    AllLoopsFit l.times (block_of l.block)
    → AllLoopsFit l.times (block_of (drop l.statement-index l.block))
    × (l.found.items ++ map (repeated l.times) (block_by (bytes_among l.bytes) (block_of (drop l.statement-index l.block)))
    ≡ l.initial.found.items ++ map (repeated l.times) (block_by (bytes_among l.bytes) (block_of l.block)))
