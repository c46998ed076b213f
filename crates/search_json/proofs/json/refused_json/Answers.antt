-- The value has no float, so its line is the compact one.
use Rattle.std.proofs.Common.{◌∙◌, ap, subst, sym}
use Rattle.search_json.proofs.Floats.{refused_none}
use Rattle.search_json.proofs.json.refused_json.Goals as goal
use Rattle.search_json.specs.Json.{HasNoFloat, line, refused_json}

pub returns : goal.returns
unfolding refused_json
returns c =
    c.in_ok-line.ensures (subst HasNoFloat (sym c.in_ok-value.ensures) (refused_none _ _ _)) ∙ ap line c.in_ok-value.ensures
