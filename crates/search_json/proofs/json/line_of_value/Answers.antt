-- The compact text of a value without a float, and the end of the line.
use Rattle.std.proofs.Common.{◌∙◌, ◌++◌, ℕ, [], List, ap, codes}
use Rattle.search_json.proofs.json.line_of_value.Goals as goal

pub returns : goal.returns
returns c = λ none.
    c.in_ok-line.ensures
    ∙ ap (λ (text : List ℕ). text ++ (codes "\n" ++ []))
    (c.as_bytes.ensures.value ∙ (c.as_str.ensures.value ∙ c.in_ok-text.ensures.text none))
