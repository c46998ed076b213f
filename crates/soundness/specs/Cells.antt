-- The cells that tasks load and exchange hold the content of memory.
use Rattle.std.specs.Prelude.{◌≡◌, ◌<◌, ◌+◌, ℕ, List, length, slice_index}
use Rattle.access_types.specs.History.{History, Memory, after_moments, byte_of}
use Rattle.litmus_semantics.specs.Layout.{cells_of, memory_at_first}
use Rattle.executions.specs.execution.Run.{Run}

-- the words of cells that stand at these addresses are what memory holds there, byte by byte
abbrev pub CellsHold : List ℕ → Memory → List ℕ → Type 0
CellsHold cells memory words =
    (cell offset : ℕ) → cell < length cells → offset < 8
    → memory (slice_index cells cell + offset) ≡ byte_of (slice_index words cell) offset

-- the cells of a run stand at these addresses
abbrev pub run_cells : Run → List ℕ
run_cells run = cells_of run.places run.program.variables

-- what memory holds in a run after these moments
abbrev pub memory_after : Run → History → Memory
memory_after run history =
    after_moments (memory_at_first run.places run.program.variables) history
