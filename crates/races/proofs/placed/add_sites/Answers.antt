-- One site more.
use Rattle.std.proofs.Common.{◌<◌, ◌+◌, List, arith, subst, sym}
use Rattle.std.proofs.lemmas.Option.{slice_get-get_or, slice_get_within}
use Rattle.races.proofs.AddsLemmas.{adds_same}
use Rattle.races.proofs.SiteLemmas.{site_more}
use Rattle.races.specs.Lists.{AddsInOrder}
use Rattle.races.specs.Placed.{IsSiteOf, PlacedBefore}
use Rattle.races.specs.declared.placed.PlacedSite.{PlacedSite}
use Rattle.races.proofs.placed.add_sites.Goals as goal

pub loop-number-preserved : goal.loop-number-preserved
loop-number-preserved c =
    subst (λ (xs : List PlacedSite). AddsInOrder PlacedBefore c.args.found.now.items xs
    (λ placed. (placed.name.site < c.loop-number.number + 1) × IsSiteOf c.args.task c.args.sites.now placed))
    (sym c.in_ok-push.ensures.items)
    (site_more c.args.task c.args.sites.now c.loop-number.number _ c.args.found.now.items c.loop-number.found.items
    (slice_get-get_or c.args.sites.now c.loop-number.number _ c.loop-number-test.true) c.requires.below c.loop-number.invariant)

pub returns : goal.returns
returns c =
    adds_same PlacedBefore c.loop-number.invariant (λ x p. p.1)
    (λ x p. (omega (arith, slice_get_within c.args.sites.now x.name.site x.site p.1, c.loop-number-test.false), p))
