-- By the bytes of the variables.
use Rattle.std.proofs.Common.{◌≡◌, ◌∙◌, ℕ, [], List, Vec, Global, ap, fold}
use Rattle.access_types.specs.declared.history.Bytes.{Bytes}
use Rattle.litmus_semantics.specs.Layout.{with_cell}
use Rattle.prepared_program.proofs.program_layout.LayLemmas.{if_made}
use Rattle.prepared_program.proofs.program_layout.layout.Layout.cells.Goals as goal

pub returns : goal.returns
returns c = λ places variables lays.
    if_made c.cells_laid.result
    (λ (cells : Vec ℕ Global) (is : cells.items ≡ fold with_cell [] c.args.self.now.variables.items).
    is ∙ ap (λ (laid : List (Bytes × ℕ)). fold with_cell [] laid) lays)
    c.cells_laid.ensures
