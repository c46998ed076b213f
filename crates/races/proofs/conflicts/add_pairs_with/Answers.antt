-- One pair more, or none.
use Rattle.std.proofs.Common.{◌≡◌, ◌<◌, false, true, ◌∙◌, ◌+◌, List, ap, arith, refl, subst, sym}
use Rattle.std.proofs.lemmas.Option.{slice_get-get_or, slice_get_within}
use Rattle.races.proofs.AddsLemmas.{adds_same}
use Rattle.races.proofs.PairLemmas.{pair_more, pair_skipped}
use Rattle.races.specs.Lists.{AddsInOrder}
use Rattle.races.specs.Placed.{ComesBefore, IsPairWith}
use Rattle.races.specs.declared.pair.SitePair.{SitePair}
use Rattle.races.proofs.conflicts.add_pairs_with.Goals as goal
use Rattle.races.proofs.conflicts.add_pairs_with.Goals.{then-conflicts_with+in_ok-push, else-conflicts_with}

pub loop-second-preserved : goal.loop-second-preserved
loop-second-preserved c =
    let Next : List SitePair → Type 0 =
    λ xs. AddsInOrder ComesBefore c.args.pairs.now.items xs
    (λ pair. (of : IsPairWith c.args.first.now c.args.sites.now pair) × (of.place < c.loop-second.second-index + 1)) in
    elim c.if-conflicts_with.branch [
      | then-conflicts_with+in_ok-push w ↦ subst Next (sym (ap (λ v. v.items) w.pairs-is ∙ w.in_ok-push.ensures.items))
          (pair_more c.args.sites.now c.requires.sites c.args.first.now c.loop-second.second-index _ _ _
          (slice_get-get_or c.args.sites.now c.loop-second.second-index _ c.loop-second-test.true)
          (w.if-conflicts_with.ensures.0 refl) c.requires.before c.loop-second.invariant)
      | else-conflicts_with w ↦ subst Next (sym (ap (λ v. v.items) w.pairs-is))
          (pair_skipped c.args.sites.now c.requires.sites c.args.first.now c.loop-second.second-index _ _ _
          (slice_get-get_or c.args.sites.now c.loop-second.second-index _ c.loop-second-test.true)
          (λ h. let clash : false ≡ true = w.if-conflicts_with.ensures.1 h in cc) c.loop-second.invariant)
    ]

pub returns : goal.returns
returns c =
    adds_same ComesBefore c.loop-second.invariant (λ x p. p.0)
    (λ x p. (p, omega (arith, slice_get_within c.args.sites.now p.place p.second p.there, c.loop-second-test.false)))
