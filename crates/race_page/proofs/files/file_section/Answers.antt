-- The pieces, one behind the other.
use Rattle.std.proofs.Common.{refl}
use Rattle.race_page.specs.Files.{file_section}
use Rattle.race_page.proofs.files.file_section.Goals as goal

pub returns : goal.returns
unfolding file_section
returns c = c.build.ensures _ (c.piece-4.ensures _ _ (c.text-2.ensures _ _ (c.piece-3.ensures _ _ (c.text.ensures _ _
    (c.piece-2.ensures _ _ (c.number.ensures _ _ (c.piece.ensures _ _ c.new.ensures refl) refl) refl) (rw
    c.deref.ensures.value at c.escaped.ensures)) refl) (rw c.deref-2.ensures.value at c.end_text.ensures)) refl)
