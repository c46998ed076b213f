-- The pairs of one first site more.
use Rattle.std.proofs.Common.{arith}
use Rattle.std.proofs.lemmas.Option.{slice_get-get_or, slice_get_within}
use Rattle.races.proofs.AddsLemmas.{adds_same}
use Rattle.races.proofs.PairLemmas.{first_more, firsts_before}
use Rattle.races.specs.Placed.{ComesBefore}
use Rattle.races.proofs.conflicts.add_pairs.Goals as goal

pub add_pairs_with-requires-clause-before : goal.add_pairs_with-requires-clause-before
add_pairs_with-requires-clause-before c =
    firsts_before c.args.sites.now c.requires.sites c.loop-first.first-index _ _
    (slice_get-get_or c.args.sites.now c.loop-first.first-index _ c.loop-first-test.true) c.loop-first.invariant

pub loop-first-preserved : goal.loop-first-preserved
loop-first-preserved c =
    first_more c.args.sites.now c.requires.sites c.loop-first.first-index _ _ _
    (slice_get-get_or c.args.sites.now c.loop-first.first-index _ c.loop-first-test.true) c.loop-first.invariant c.in_ok-add_pairs_with.ensures

pub returns : goal.returns
returns c =
    adds_same ComesBefore c.loop-first.invariant (λ x p. p.0)
    (λ x p. (p, omega (arith, slice_get_within c.args.sites.now p.place p.first p.there, c.loop-first-test.false)))
