-- Where the statements to come are kept and counted, the whole block is.
use Rattle.std.proofs.Common.{drop}
use Rattle.litmus_syntax.specs.Kept.{BlockIsKept}
use Rattle.litmus_syntax.specs.Views.{block_of}
use Rattle.litmus_syntax.specs.declared.limits.Tally.{Tally}
use Rattle.litmus_syntax.proofs.limits.Tally.+kept.Given as goal

abbrev pub invariant-add_block-loop-statement : goal.invariant-add_block-loop-statement
invariant-add_block-loop-statement l =
    (end : Tally) → BlockIsKept l.scope l.place l.self end (block_of (drop l.statement-index l.block))
    → BlockIsKept l.scope l.initial.place l.initial.self end (block_of l.block)
