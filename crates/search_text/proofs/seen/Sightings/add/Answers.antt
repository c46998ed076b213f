-- the map's entry of the text is seen once more, or a new one stands last
use Rattle.std.proofs.Common.{◌≡◌, ◌∙◌, ap, sym}
use Rattle.indexmap.specs.IndexMap.{set_value_at}
use Rattle.search_text.proofs.Shown.{again_is, new_is, shown}
use Rattle.search_text.specs.Seen.{sighted}
use Rattle.search_text.proofs.seen.Sightings.add.Goals as goal

pub returns-in-Some : goal.returns-in-Some
returns-in-Some c =
    ap (λ times. shown (set_value_at c.self.inside.seen.entries c.in-Some.at times)) c.again.ensures
    ∙ again_is c.args.schedule.now c.self.inside.seen.entries c.args.text c.in-Some.at c.index_mut.result.now
    (sym c.in-Some.ensures.index) c.index_mut.ensures.value
    ∙ ap (λ all. sighted c.args.schedule.now all c.args.text.items) c.self.view_is

pub returns-in_ok-insert-in-None : goal.returns-in_ok-insert-in-None
returns-in_ok-insert-in-None c =
    ap shown c.in_ok-insert-in-None.ensures.entries
    ∙ new_is c.args.schedule.now c.self.inside.seen.entries c.args.text c.in_ok-seen-in-None.seen c.in_ok-seen-in-None.ensures
    (sym c.in-None.ensures.found)
    ∙ ap (λ all. sighted c.args.schedule.now all c.args.text.items) c.self.view_is
