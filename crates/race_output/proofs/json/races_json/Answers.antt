-- The value has no float, so its text is the compact one.
use Rattle.std.proofs.Common.{◌≡◌, ◌∙◌, ◌++◌, ℕ, [], List, ap, codes, false, subst, sym}
use Rattle.race_output.specs.Json.{races_json}
use Rattle.serde_json.specs.Data.{Data}
use Rattle.serde_json.specs.Written.{compact_text, has_float}
use Rattle.race_output.proofs.Floats.{file_none}
use Rattle.race_output.proofs.json.races_json.Goals as goal

pub returns : goal.returns
unfolding races_json
returns c = λ run of.
    let value = c.in_ok-value.ensures run of in
    let none = subst (λ (d : Data). has_float d ≡ false) (sym value) (file_none _ run _ _ _ _) in
    let text = c.in_ok-text.ensures.text none ∙ ap compact_text value in
    c.in_ok-line.ensures ∙ ap (λ (t : List ℕ). t ++ (codes "\n" ++ [])) (c.as_bytes.ensures.value ∙ (c.as_str.ensures.value ∙ text))
