-- A comparison stands in a statement of the block where it stands in one of those to come.
use Rattle.std.proofs.Common.{◌≡◌, drop}
use Rattle.litmus_syntax.specs.Views.{block_of}
use Rattle.check_warnings.specs.Comparisons.{in_block}
use Rattle.check_warnings.proofs.comparisons.+statements.Given as goal

abbrev pub invariant-in_block-loop-statement : goal.invariant-in_block-loop-statement
invariant-in_block-loop-statement l =
    in_block l.variable l.contents (block_of (drop l.statement-index l.block)) ≡ in_block l.variable l.contents (block_of l.block)
