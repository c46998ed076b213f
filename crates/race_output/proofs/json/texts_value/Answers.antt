-- One text more has one value more.
use Rattle.std.proofs.Common.{◌≡◌, ◌∙◌, ◌++◌, ℕ, List, Vec, ap, arith, map}
use Rattle.std.specs.Global.{Global}
use Rattle.std.proofs.lemmas.List.{map-append}
use Rattle.std.proofs.lemmas.Result.{IfOk-weaker}
use Rattle.output_pieces.specs.Values.{text_data}
use Rattle.race_output.specs.Reasons.{texts}
use Rattle.output_pieces.proofs.Grown.{grown}
use Rattle.race_output.proofs.json.texts_value.Goals as goal

splits : (a b : List (Vec ℕ Global)) → map text_data (texts (a ++ b)) ≡ map text_data (texts a) ++ map text_data (texts b)
splits a b = ap (map text_data) (map-append (λ (one : Vec ℕ Global). one.items) a b) ∙ map-append text_data (texts a) (texts b)

pub loop-one-preserved : goal.loop-one-preserved
loop-one-preserved c =
    c.in_ok-add_item.ensures (text_data c.one-item.result.items)
    (IfOk-weaker c.text_value.result _ _ (λ value is. is ∙ ap text_data c.deref.ensures.value) c.text_value.ensures)
    ∙ grown (λ (all : List (Vec ℕ Global)). map text_data (texts all)) splits c.args.all.now c.loop-one.one-index c.one-item.result (omega arith)
    c.one-item.is _ c.loop-one.invariant
