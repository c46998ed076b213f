-- A text with bytes has lines.
use Rattle.std.proofs.Common.{◌≡◌, ◌==◌, ◌∷◌, ◌∙◌, [], ℕ, List, false, length, refl, sym}
use Rattle.std.proofs.lemmas.Result.{IfOk-weaker}
use Rattle.std.specs.List.{concat}
use Rattle.std.specs.Prelude.{codes}
use Rattle.race_page.specs.Listing.{lines_from, listing}
use Rattle.race_page.specs.Marks.{mark_at}
use Rattle.race_page.specs.declared.listing.Place.TheVariants.{Between}
use Rattle.race_page.specs.declared.values.PairTold.{PairTold}
use Rattle.race_page.proofs.listing.listing.Goals as goal

has_lines : (file : ℕ) (text : List ℕ) (pairs : List PairTold) → (length text == 0) ≡ false
    → concat (codes "<ol>\n" ∷ lines_from file (mark_at pairs) Between 0 text ∷ codes "</ol>\n" ∷ []) ≡ listing file text pairs
has_lines file [] pairs isnt = cc
has_lines file (byte ∷ text) pairs isnt = refl

pub returns : goal.returns
returns c =
    IfOk-weaker c.build.result _ _
    (λ found is. is ∙ has_lines c.args.file c.args.text.now c.args.pairs.now (sym c.is_empty.ensures ∙ c.if-is_empty.false))
    (c.build.ensures _ (c.piece-2.ensures _ _ (c.text.ensures _ _ (c.piece.ensures _ _ c.new-2.ensures refl)
    c.marked_lines.ensures) refl))
