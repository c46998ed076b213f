-- The access at its place, with the name of its variable.
use Rattle.std.proofs.Common.{◌∙◌, ℕ, List, Option, ap, map}
use Rattle.output_pieces.specs.Variables.{name_of}
use Rattle.search_json.proofs.reports.access_value.Goals as goal
use Rattle.search_json.specs.Reports.{access_data, place_in, told_data}

pub returns : goal.returns
unfolding access_data
returns c = λ places lays.
    let sources = c.args.sources in
    let access = c.args.access.now in
    c.in_ok-value.ensures
    ∙ ap (λ (at : Option ℕ). told_data sources.text.now at c.name_of-name.result.now access) c.place_in-at.ensures.place
    ∙ ap (λ (name : List ℕ). told_data sources.text.now (place_in sources.text.now (map (λ own. own.items) sources.places.now) access) name access)
    (c.name_of-name.ensures ∙ ap (name_of sources.variables.now) (c.variable_in-number.ensures places lays))
