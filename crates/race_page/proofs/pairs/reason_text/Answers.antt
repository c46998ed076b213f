-- The pieces, one behind the other.
use Rattle.std.proofs.Common.{refl}
use Rattle.race_page.specs.Pairs.{reason_text}
use Rattle.race_page.proofs.pairs.reason_text.Goals as goal

pub returns : goal.returns
unfolding reason_text
returns c = c.build.ensures _ (c.piece-2.ensures _ _ (c.text.ensures _ _ (c.piece.ensures _ _ c.new.ensures refl)
    c.escaped.ensures) refl)
