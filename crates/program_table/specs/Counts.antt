-- How much a program has of what is limited, line by line.
use Rattle.std.specs.Prelude.{◌++◌, ◌-◌, ◌^◌, ℕ, suc, List, [], ◌∷◌, codes, length, min, slice_index}
use Rattle.std.specs.Fmt.{decimal}
use Rattle.std.specs.List.{concat}
use Rattle.litmus_syntax.specs.Limits.{block_count, connectives, file_bytes, nesting_limit, operators_limit, registers_limit, repeats_limit, scoped_limit, statements_limit, tasks_limit, variables_limit}
use Rattle.litmus_syntax.specs.Tree.{Block, Proposition}
use Rattle.litmus_syntax.specs.Views.{block_of}
use Rattle.litmus_syntax.specs.declared.program.Task.{Task}
use Rattle.program_table.specs.Nesting.{open_blocks, scoped_in}
use Rattle.program_table.specs.Operators.{most_in_block}
use Rattle.program_table.specs.text_pieces.Pieces.{padded}

-- a count of 64 bits stays at its last value
abbrev pub capped : ℕ → ℕ
capped count = min count (2 ^ 64 - 1)

-- the line that says that there is so much, and how much there may be
unfoldable pub used : (name : List ℕ) → (count : ℕ) → (limit : ℕ) → List ℕ
used name count limit = concat (padded name 34 ∷ padded (decimal count) 12 ∷ decimal limit ∷ codes "\n" ∷ [])

-- the same of a task
unfoldable pub used_by_task : (task : ℕ) → (name : List ℕ) → (count : ℕ) → (limit : ℕ) → List ℕ
used_by_task task name count limit = used (concat (codes "P" ∷ decimal task ∷ name ∷ [])) count limit

-- the lines of a task's body
unfoldable pub body_lines : (number : ℕ) → Block → List ℕ
body_lines number body = concat
    (used_by_task number (codes " statements") (block_count body) statements_limit
    ∷ used_by_task number (codes " blocks, one in another") (open_blocks body) nesting_limit
    ∷ used_by_task number (codes " scoped assertions in force") (scoped_in body) scoped_limit
    ∷ used_by_task number (codes " operators of an expression") (capped (most_in_block body)) operators_limit ∷ [])

-- the lines of a task that can begin so many accesses
unfoldable pub task_lines : (number : ℕ) → Task → (accesses : ℕ) → List ℕ
task_lines number task accesses = concat
    (body_lines number (block_of task.body.items)
    ∷ used_by_task number (codes " registers") (length task.registers) registers_limit
    ∷ used_by_task number (codes " accesses, with turns") accesses repeats_limit ∷ [])

-- the lines of the tasks from a number on, which can begin so many accesses each
abbrev pub lines_from : (accesses : List ℕ) → (number : ℕ) → List Task → List ℕ
lines_from accesses number [] = []
lines_from accesses number (task ∷ more) =
    task_lines number task (slice_index accesses number) ++ lines_from accesses (suc number) more

-- the lines of a program whose text has so many bytes
unfoldable pub program_lines : (bytes tasks variables : ℕ) → (condition : Proposition) → List ℕ
program_lines bytes tasks variables condition = concat
    (used (codes "bytes") bytes file_bytes ∷ used (codes "processes") tasks tasks_limit
    ∷ used (codes "variables") variables variables_limit
    ∷ used (codes "operators of the condition") (capped (connectives condition)) operators_limit ∷ [])
