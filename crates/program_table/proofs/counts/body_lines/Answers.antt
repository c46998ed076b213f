-- The lines, one behind the other.
use Rattle.std.proofs.Common.{◌≡◌, ◌++◌, ◌∙◌, ℕ, [], List, ap, codes}
use Rattle.program_table.specs.Counts.{body_lines, used_by_task}
use Rattle.program_table.proofs.counts.body_lines.Goals as goal

four : (x y z w a b d e : List ℕ) → x ≡ a → y ≡ b → z ≡ d → w ≡ e → x ++ (y ++ (z ++ (w ++ []))) ≡ a ++ (b ++ (d ++ (e ++ [])))
four x y z w a b d e p q r s =
    ap (λ t. t ++ (y ++ (z ++ (w ++ [])))) p ∙ ap (λ t. a ++ (t ++ (z ++ (w ++ [])))) q
    ∙ ap (λ t. a ++ (b ++ (t ++ (w ++ [])))) r ∙ ap (λ t. a ++ (b ++ (d ++ (t ++ [])))) s

pub returns : goal.returns
unfolding body_lines
returns c =
    c.in_ok-lines.ensures
    ∙ four _ _ _ _ _ _ _ _
    (c.deref.ensures.value ∙ c.in_ok-statements.ensures
    ∙ ap (λ n. used_by_task c.args.number (codes " statements") n 256) c.statements_in-statements.ensures)
    (c.deref-2.ensures.value ∙ c.in_ok-blocks.ensures
    ∙ ap (λ n. used_by_task c.args.number (codes " blocks, one in another") n 16) c.open_blocks-blocks.ensures)
    (c.deref-3.ensures.value ∙ c.in_ok-scoped.ensures
    ∙ ap (λ n. used_by_task c.args.number (codes " scoped assertions in force") n 8) c.scoped_in_force-scoped.ensures)
    (c.deref-4.ensures.value ∙ c.in_ok-most.ensures
    ∙ ap (λ n. used_by_task c.args.number (codes " operators of an expression") n 256) c.most_in_block-most.ensures)
