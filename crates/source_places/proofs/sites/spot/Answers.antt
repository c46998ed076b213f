-- The pieces, one behind the other.
use Rattle.std.proofs.Common.{◌≡◌, ℕ, IfOk, List, refl, subst}
use Rattle.program_table.specs.text_pieces.Shown.{shown}
use Rattle.source_places.specs.Sites.{spot}
use Rattle.source_places.proofs.sites.spot.Goals as goal

pub returns : goal.returns
unfolding spot
returns c =
    let statement = subst (λ (bytes : List ℕ). IfOk c.shown-2.result (λ found. found.items ≡ shown bytes)) c.statement_at.ensures
    c.shown-2.ensures in
    c.build.ensures _ (c.text-3.ensures _ _ (c.piece-4.ensures _ _ (c.words.ensures _ _ (c.piece-3.ensures _ _ (c.text-2.ensures _ _
    (c.piece-2.ensures _ _ (c.text.ensures _ _ (c.piece.ensures _ _ c.new.ensures refl) c.shown.ensures) refl) c.spot_text.ensures) refl)
    refl) refl) statement)
