-- The piece stands behind those so far.
use Rattle.std.proofs.Common.{◌≡◌, ◌∙◌, ◌++◌, ◌∷◌, [], ℕ, List, ap, sym}
use Rattle.std.specs.List.{concat}
use Rattle.std.proofs.lemmas.List.{append-nil}
use Rattle.std.proofs.lemmas.List.Folds.{concat-append}
use Rattle.std.proofs.lemmas.Result.{IfOk-weaker}
use Rattle.output_pieces.proofs.texts.TextBuilder.piece.Goals as goal

one_more : (pieces : List (List ℕ)) (own : List ℕ) → concat pieces ++ own ≡ concat (pieces ++ own ∷ [])
one_more pieces own = sym (concat-append pieces (own ∷ []) ∙ ap (λ (t : List ℕ). concat pieces ++ t) (append-nil own))

pub returns : goal.returns
returns c = λ pieces own has is. record {
  are = IfOk-weaker c.appended.result _ _ (λ text e. e ∙ (ap (λ (t : List ℕ). concat pieces ++ t) is ∙ one_more pieces own))
      (c.appended.ensures (concat pieces) has.are);
}
