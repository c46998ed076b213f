-- the sighting at a place is shown by the entry of the map there
use Rattle.std.proofs.Common.{◌≡◌, ◌∙◌, Some, ap, slice_get}
use Rattle.std.specs.Option.{option_map}
use Rattle.search_text.proofs.Shown.{Entry, one_is}
use Rattle.search_text.specs.Times.{Sighting}
use Rattle.search_text.proofs.seen.Sightings.get.Goals as goal

pub returns-in-Some : goal.returns-in-Some
returns-in-Some c =
    ap (λ t. Some (t, c.in-Some.seen.now)) c.as_slice.ensures.value
    ∙ ap (option_map (λ (entry : Entry). (entry.0.items, entry.1))) c.in-Some.ensures.entry
    ∙ one_is c.self.inside.seen.entries c.args.place
    ∙ ap (λ all. slice_get all c.args.place) c.self.view_is

pub returns-in-None : goal.returns-in-None
returns-in-None c =
    ap (option_map (λ (entry : Entry). (entry.0.items, entry.1))) c.in-None.ensures.entry
    ∙ one_is c.self.inside.seen.entries c.args.place
    ∙ ap (λ all. slice_get all c.args.place) c.self.view_is
