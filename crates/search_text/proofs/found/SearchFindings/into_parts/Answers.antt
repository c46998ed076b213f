-- the texts are those of the maps
use Rattle.std.proofs.Common.{◌∙◌, List, ap}
use Rattle.search_text.specs.Joined.{sightings_of}
use Rattle.search_text.specs.Times.{Sighting}
use Rattle.search_text.proofs.found.SearchFindings.into_parts.Goals as goal

pub returns : goal.returns
returns c =
    ap (λ (reports : List Sighting). record c.args.self { reports = reports; states = sightings_of c.in_ok-states.states.items }) c.in_ok-reports.ensures
    ∙ ap (λ (states : List Sighting). record c.args.self { states = states }) c.in_ok-states.ensures
