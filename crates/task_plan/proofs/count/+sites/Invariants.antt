-- What was counted so far and what stands in the statements to come are all.
use Rattle.std.proofs.Common.{◌≡◌, ◌+◌, ◌-◌, ◌^◌, ◌≤◌, drop, length, min}
use Rattle.litmus_syntax.specs.Sites.{sites_of}
use Rattle.litmus_syntax.specs.Views.{block_of}
use Rattle.task_plan.proofs.count.+sites.Given as goal

abbrev pub invariant-sites_in-loop-statement : goal.invariant-sites_in-loop-statement
invariant-sites_in-loop-statement l =
    (l.count ≤ 2 ^ 64 - 1)
    × (min (l.count + length (sites_of (block_of (drop l.statement-index l.block)))) (2 ^ 64 - 1)
    ≡ min (length (sites_of (block_of l.block))) (2 ^ 64 - 1))
