-- The pieces, one behind the other.
use Rattle.std.proofs.Common.{◌∙◌, Option, Vec, ap, refl, sym, ℕ}
use Rattle.std.proofs.lemmas.Result.{IfOk-weaker}
use Rattle.std.specs.Global.{Global}
use Rattle.std.specs.Prelude.{option_map}
use Rattle.race_page.specs.Pairs.{picture_text}
use Rattle.race_page.proofs.pairs.picture_text.Goals as goal

pub returns : goal.returns
returns c =
    IfOk-weaker c.build.result _ _
    (λ text is. is ∙ sym (ap (λ (picture : Option (Vec ℕ Global)). picture_text (option_map (λ (svg : Vec ℕ Global). svg.items) picture))
    c.in-Some.is))
    (c.build.ensures _ (c.piece-3.ensures _ _ (c.piece-2.ensures _ _ (c.piece.ensures _ _ c.new-2.ensures refl)
    c.deref.ensures.value) refl))
