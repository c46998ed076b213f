-- the map has the text where it is among what its entries show
use Rattle.std.proofs.Common.{◌∙◌, ap}
use Rattle.std.specs.List.{list_any}
use Rattle.report_text.specs.Groups.{is_text}
use Rattle.search_text.proofs.Shown.{found_is}
use Rattle.search_text.specs.Times.{Sighting}
use Rattle.search_text.proofs.seen.Sightings.contains.Goals as goal

pub returns : goal.returns
returns c =
    c.contains_key.ensures
    ∙ (found_is c.self.inside.seen.entries c.args.text.now
    ∙ ap (list_any (λ (sighting : Sighting). is_text c.args.text.now sighting.0)) c.self.view_is)
