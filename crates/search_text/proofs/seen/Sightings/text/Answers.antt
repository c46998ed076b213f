-- the text at a place of the map is that of the sighting there
use Rattle.std.proofs.Common.{◌∙◌, Some, ap, slice_get}
use Rattle.std.specs.Option.{option_map}
use Rattle.search_text.proofs.Shown.{Entry, text_is}
use Rattle.search_text.specs.Times.{Sighting}
use Rattle.search_text.proofs.seen.Sightings.text.Goals as goal

pub returns-in-Some : goal.returns-in-Some
returns-in-Some c =
    ap (λ t. Some t) c.as_slice.ensures.value
    ∙ ap (option_map (λ (entry : Entry). entry.0.items)) c.in-Some.ensures.entry
    ∙ text_is c.self.inside.seen.entries c.args.place
    ∙ ap (λ all. option_map (λ (sighting : Sighting). sighting.0) (slice_get all c.args.place)) c.self.view_is

pub returns-in-None : goal.returns-in-None
returns-in-None c =
    ap (option_map (λ (entry : Entry). entry.0.items)) c.in-None.ensures.entry
    ∙ text_is c.self.inside.seen.entries c.args.place
    ∙ ap (λ all. option_map (λ (sighting : Sighting). sighting.0) (slice_get all c.args.place)) c.self.view_is
