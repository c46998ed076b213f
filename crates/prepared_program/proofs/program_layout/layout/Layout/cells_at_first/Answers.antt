-- Each cell begins at a multiple of 8.
use Rattle.std.proofs.Common.{◌≡◌, ◌∙◌, ◌*◌, ◌/◌, ℕ, [], List, Vec, Global, ap, fold, map}
use Rattle.access_types.specs.History.{initial_memory, value_from}
use Rattle.access_types.specs.declared.history.Bytes.{Bytes}
use Rattle.litmus_semantics.specs.Layout.{with_cell}
use Rattle.prepared_program.proofs.program_layout.CellLemmas.{words_of_cells}
use Rattle.prepared_program.proofs.program_layout.LayLemmas.{if_made}
use Rattle.prepared_program.proofs.program_layout.layout.Layout.cells_at_first.Goals as goal

pub returns : goal.returns
returns c = λ places variables lays.
    let values : List (Bytes × ℕ) = c.args.self.now.variables.items in
    if_made c.words_at.result
    (λ (words : Vec ℕ Global) (is : words.items ≡ map (λ address. value_from (initial_memory values) (8 * (address / 8)) 8) c.as_slice.result.now).
    is ∙ (ap (λ (cells : List ℕ). map (λ address. value_from (initial_memory values) (8 * (address / 8)) 8) cells) (c.as_slice.ensures.value ∙ c.in_ok-cells.ensures)
    ∙ (words_of_cells (initial_memory values) values
    ∙ ap (λ (all : List (Bytes × ℕ)). map (λ cell. value_from (initial_memory all) cell 8) (fold with_cell [] all)) lays)))
    c.words_at.ensures
