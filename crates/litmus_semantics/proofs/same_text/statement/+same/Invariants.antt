-- The whole blocks are the same exactly where the statements to come are.
use Rattle.std.proofs.Common.{◌≡◌, ◌↔◌, drop}
use Rattle.litmus_syntax.specs.Views.{block_of}
use Rattle.litmus_semantics.proofs.same_text.statement.+same.Given as goal

abbrev pub invariant-is_same_block-loop-index : goal.invariant-is_same_block-loop-index
invariant-is_same_block-loop-index l =
    (block_of (drop l.index l.one) ≡ block_of (drop l.index l.other)) ↔ (block_of l.one ≡ block_of l.other)
