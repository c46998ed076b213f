-- The first differs from those after it.
use Rattle.std.proofs.Common.{◌≡◌, ◌∙◌, false, sym, true}
use Rattle.oracle_soundness.proofs.oracle_headline.Pairs.{pairs_front}
use Rattle.oracle_soundness.proofs.oracle_headline.armings.all_differ.Goals as goal

pub loop-numbers-preserved : goal.loop-numbers-preserved
loop-numbers-preserved c = λ pairs. c.loop-numbers.invariant (pairs_front c.loop-numbers.numbers.now c.in-len1-up.len_at_least
    (λ there. let both : false ≡ true = sym c.if-is_one.false ∙ c.is_one.ensures.1 there in cc) pairs)
