-- The value has no float, so its line is the compact one.
use Rattle.std.proofs.Common.{◌∙◌, ap, subst, sym}
use Rattle.search_json.proofs.Floats.{file_none}
use Rattle.search_json.proofs.json.json_text.Goals as goal
use Rattle.search_json.specs.Json.{HasNoFloat, json_text, line}

pub returns : goal.returns
unfolding json_text
returns c = λ places lays.
    let value = c.in_ok-value.ensures places lays in
    c.in_ok-line.ensures (subst HasNoFloat (sym value) (file_none _ _ places _ _ _ _ _ _ _ _)) ∙ ap line value
