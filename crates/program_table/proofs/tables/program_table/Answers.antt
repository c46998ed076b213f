-- The tables, one behind the other.
use Rattle.std.proofs.Common.{◌≡◌, ◌++◌, ◌∙◌, ℕ, [], List, ap}
use Rattle.program_table.specs.Table.{program_table}
use Rattle.program_table.proofs.tables.program_table.Goals as goal

three : (x y z a b d : List ℕ) → x ≡ a → y ≡ b → z ≡ d → x ++ (y ++ (z ++ [])) ≡ a ++ (b ++ (d ++ []))
three x y z a b d p q r =
    ap (λ t. t ++ (y ++ (z ++ []))) p ∙ ap (λ t. a ++ (t ++ (z ++ []))) q ∙ ap (λ t. a ++ (b ++ (t ++ []))) r

pub returns : goal.returns
unfolding program_table
returns c = λ settings words ready.
    let accesses = rw c.sites.ensures at c.in_ok-accesses.ensures in
    c.in_ok-found.ensures
    ∙ three _ _ _ _ _ _ (c.deref.ensures.value ∙ accesses words)
    (c.deref-2.ensures.value ∙ c.in_ok-variables.ensures settings ready) (c.deref-3.ensures.value ∙ c.in_ok-limits.ensures)
