-- the map's entry at the place has the count
use Rattle.std.proofs.Common.{◌≡◌, ◌∙◌, ap, arith, length}
use Rattle.std.proofs.lemmas.List.{length-map}
use Rattle.indexmap.specs.IndexMap.{set_value_at}
use Rattle.search_text.proofs.Shown.{counted_is, shown}
use Rattle.search_text.specs.Counted.{with_count_at}
use Rattle.search_text.proofs.seen.Sightings.set_times_at.Goals as goal

pub index_mut-requires : goal.index_mut-requires
index_mut-requires c =
    let same = ap length c.self.view_is in
    let many : length (shown c.self.inside.seen.entries) ≡ length c.self.inside.seen.entries = length-map c.self.inside.seen.entries _ in
    omega (arith, c.requires, many, same)

pub returns : goal.returns
returns c =
    ap (λ times. shown (set_value_at c.self.inside.seen.entries c.args.place times)) c.set_times.ensures
    ∙ counted_is c.self.inside.seen.entries c.args.place c.args.times c.index_mut.result.now c.index_mut.ensures.value
    ∙ ap (λ all. with_count_at all c.args.place c.args.times) c.self.view_is
