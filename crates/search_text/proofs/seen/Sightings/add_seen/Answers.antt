-- the map's entry of the text has the later times too, or a new one stands last
use Rattle.std.proofs.Common.{◌∙◌, ap, sym}
use Rattle.indexmap.specs.IndexMap.{set_value_at}
use Rattle.search_text.proofs.JoinLemmas.{joined_at, joined_last}
use Rattle.search_text.proofs.Shown.{shown}
use Rattle.search_text.specs.Joined.{joined, later_too}
use Rattle.search_text.proofs.seen.Sightings.add_seen.Goals as goal

pub returns-in-Some : goal.returns-in-Some
returns-in-Some c =
    ap (λ times. shown (set_value_at c.self.inside.seen.entries c.in-Some.at times))
    (c.add_times.ensures ∙ ap (later_too c.index_mut.result.now) c.times.ensures)
    ∙ joined_at c.self.inside.seen.entries c.args.text c.in-Some.at c.index_mut.result.now c.args.seen
    (sym c.in-Some.ensures.index) c.index_mut.ensures.value
    ∙ ap (λ all. joined all (c.args.text.items, c.args.seen)) c.self.view_is

pub returns-in_ok-insert-in-None : goal.returns-in_ok-insert-in-None
returns-in_ok-insert-in-None c =
    ap shown c.in_ok-insert-in-None.ensures.entries
    ∙ joined_last c.self.inside.seen.entries c.args.text c.args.seen (sym c.in-None.ensures.found)
    ∙ ap (λ all. joined all (c.args.text.items, c.args.seen)) c.self.view_is
