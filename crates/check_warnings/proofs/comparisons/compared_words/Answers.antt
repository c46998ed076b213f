-- The words have the article of the type and its name.
use Rattle.std.proofs.Common.{◌≡◌, ◌∙◌, IfOk, List, [], ◌∷◌, ap₂, subst, ℕ}
use Rattle.std.specs.Prelude.{codes}
use Rattle.std.specs.List.{concat}
use Rattle.check_warnings.specs.Comparisons.{compared_words}
use Rattle.check_warnings.proofs.comparisons.compared_words.Goals as goal

pub returns : goal.returns
unfolding compared_words
returns c =
    subst (λ (words : List ℕ). IfOk c.joined.result (λ text. text.items ≡ words))
    (ap₂ (λ (before kind : List ℕ). concat
    (codes "` is compared with a number that " ∷ before ∷ codes " `" ∷ kind
    ∷ codes "` never is: its value has a sign, and with all bits set it is -1\n" ∷ []))
    (c.as_bytes-before.ensures.value ∙ c.article.ensures) (c.as_bytes-kind.ensures.value ∙ c.type_name.ensures)) c.joined.ensures
