-- One cell more.
use Rattle.std.proofs.Common.{◌≡◌, ◌∙◌, ◌+◌, ◌<◌, ℕ, [], List, add-one, ap, drop, drop-cons, fold, get_or, length, subst, sym}
use Rattle.access_types.specs.declared.history.Bytes.{Bytes}
use Rattle.litmus_semantics.specs.Layout.{with_cell}
use Rattle.prepared_program.proofs.program_layout.layout.Layout.cells_laid.Goals as goal

cell_more : (variables passed : List (Bytes × ℕ)) (cells more : List ℕ) (i : ℕ) (variable : Bytes × ℕ) → passed ≡ variables → i < length passed
    → more ≡ with_cell cells (get_or passed i variable) → fold with_cell cells (drop i variables) ≡ fold with_cell [] variables
    → fold with_cell more (drop (i + 1) variables) ≡ fold with_cell [] variables
cell_more variables passed cells more i variable same within is so_far =
    let here = subst (λ (vs : List (Bytes × ℕ)). i < length vs) same within in
    let now = subst (λ (vs : List (Bytes × ℕ)). more ≡ with_cell cells (get_or vs i variable)) same is in
    rw (add-one, now) (sym (ap (fold with_cell cells) (drop-cons variables i variable here)) ∙ so_far)

pub loop-variable-preserved : goal.loop-variable-preserved
loop-variable-preserved c =
    cell_more c.args.self.now.variables.items c.deref-variable-items.result.now c.loop-variable.cells.items c.add_cell.new.cells.items
    c.loop-variable.variable-index _ c.deref-variable-items.ensures.value c.loop-variable-test.true c.in_ok-add_cell.ensures
    c.loop-variable.invariant
