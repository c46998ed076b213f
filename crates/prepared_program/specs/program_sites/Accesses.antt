-- How many accesses a task can begin.
use Rattle.std.specs.Prelude.{ℕ}
use Rattle.litmus_syntax.specs.Limits.{block_repeats}
use Rattle.litmus_syntax.specs.Tree.{Task}

-- as often as the loops of its text repeat its accesses, in all
abbrev pub begun_by : Task → ℕ
begun_by task = block_repeats 1 task.body
