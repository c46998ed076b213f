-- The lines of both tables are those of the rows.
use Rattle.std.proofs.Common.{◌≡◌, ◌++◌, ◌∙◌, ℕ, [], List, ap, codes}
use Rattle.program_table.specs.Table.{accesses_text}
use Rattle.program_table.proofs.tables.accesses_text.Goals as goal

-- two tables, each behind its head
two_tables : (first second x y a b : List ℕ) → x ≡ a → y ≡ b
    → first ++ (x ++ (second ++ (y ++ []))) ≡ first ++ (a ++ (second ++ (b ++ [])))
two_tables first second x y a b p q =
    ap (λ t. first ++ (t ++ (second ++ (y ++ [])))) p ∙ ap (λ t. first ++ (a ++ (second ++ (t ++ [])))) q

pub returns : goal.returns
unfolding accesses_text
returns c = λ words.
    c.in_ok-found.ensures
    ∙ two_tables (codes "access         at           does                 counts as marked by\n")
    (codes "\naccess         address             size     watch word          looks at\n") _ _ _ _
    (c.deref.ensures.value ∙ c.in_ok-stand.ensures words) (c.deref-2.ensures.value ∙ c.in_ok-look.ensures words)
