-- one count more is put in
use Rattle.std.proofs.Common.{◌≡◌, ◌∙◌, ap, arith, length, take}
use Rattle.search_text.proofs.CountedLemmas.{length_counted, one_count_more}
use Rattle.search_text.proofs.seen.Sightings.set_times.Goals as goal

pub set_times_at-requires : goal.set_times_at-requires
set_times_at-requires c =
    let many : length c.loop-place.self ≡ length c.args.self.now =
    ap length c.loop-place.invariant ∙ length_counted (take c.loop-place.place c.args.counts.now) c.args.self.now in
    omega (arith, c.requires, c.loop-place-test.true, many)

pub loop-place-preserved : goal.loop-place-preserved
loop-place-preserved c =
    c.set_times_at.ensures
    ∙ one_count_more c.args.counts.now c.loop-place.place c.args.self.now c.loop-place.self _ c.loop-place-test.true c.loop-place.invariant
