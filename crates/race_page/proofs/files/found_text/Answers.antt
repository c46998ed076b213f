-- The pieces, one behind the other.
use Rattle.std.proofs.Common.{ap, length, List, refl}
use Rattle.race_page.specs.Files.{found_text}
use Rattle.race_page.specs.declared.values.PairTold.{PairTold}
use Rattle.race_page.proofs.files.found_text.Goals as goal

pub returns : goal.returns
unfolding found_text
returns c = c.build.ensures _ (c.text-4.ensures _ _ (c.text-3.ensures _ _ (c.text-2.ensures _ _ (c.piece-3.ensures _ _
    (c.number.ensures _ _ (c.piece-2.ensures _ _ (c.text.ensures _ _ (c.piece.ensures _ _ c.new.ensures refl)
    c.file_text.ensures) refl) (ap (λ (pairs : List PairTold). length pairs) c.as_slice-pairs.ensures.value)) refl)
    (rw c.as_slice-pairs.ensures.value at c.listing.ensures)) (rw c.as_slice-pairs.ensures.value at
    c.pairs_text.ensures)) c.searched_text.ensures)
