-- The depth of what was passed and that of the statements to come are that of all.
use Rattle.std.proofs.Common.{◌≡◌, ◌-◌, ◌^◌, ◌≤◌, drop, max, min}
use Rattle.litmus_syntax.specs.Views.{block_of}
use Rattle.task_plan.specs.Depth.{depth_of}
use Rattle.task_plan.proofs.count.+depth.Given as goal

abbrev pub invariant-depth_in-loop-statement : goal.invariant-depth_in-loop-statement
invariant-depth_in-loop-statement l =
    (l.depth ≤ 2 ^ 64 - 1)
    × (min (max l.depth (depth_of (block_of (drop l.statement-index l.block)))) (2 ^ 64 - 1)
    ≡ min (depth_of (block_of l.block)) (2 ^ 64 - 1))
