-- The tags of the text of a file.
use Rattle.std.proofs.Common.{◌==◌, ◌++◌, ◌∷◌, [], ℕ, suc, List, None, Option, Some, refl}
use Rattle.std.specs.Prelude.{codes, if◌then◌else◌}
use Rattle.race_output.specs.declared.words.Said.{Said}
use Rattle.race_page.specs.Escape.{escaped_byte}
use Rattle.race_page.specs.Listing.{closing, in_line, line_begin, line_end, lines_from, listing, mark_begin, mark_end, next_place, opening, piece, place_in, text_end}
use Rattle.race_page.specs.Marks.{mark_at}
use Rattle.race_page.specs.Tags.{tags}
use Rattle.race_page.specs.declared.listing.Place.{Place}
use Rattle.race_page.specs.declared.listing.Place.TheVariants.{Between, Line, Marked}
use Rattle.race_page.specs.declared.values.PairTold.{PairTold}
use Rattle.race_page.proofs.TagLemmas.{IsTagged, after, both, by_test, byte_tagged, class_tagged, decimal_tagged, words_tagged}

end_tagged : (said : Said) → IsTagged (mark_end said)
unfolding mark_end tags
end_tagged said = let c = class_tagged said in let w = words_tagged said in simp after

closing_tagged : (place : Place) → IsTagged (closing place)
closing_tagged Between = refl
closing_tagged Line = refl
closing_tagged (Marked said) = end_tagged said

begin_tagged : (file at : ℕ) (said : Said) → IsTagged (mark_begin file at said)
unfolding mark_begin tags
begin_tagged file at said =
    let c = class_tagged said in let f = decimal_tagged file in let a = decimal_tagged at in simp after

line_begin_tagged : (place : Place) → IsTagged (line_begin place)
unfolding tags
line_begin_tagged Between = refl
line_begin_tagged Line = refl
line_begin_tagged (Marked said) = refl

opening_tagged : (file at : ℕ) (place : Place) (mark : Option Said) → IsTagged (opening file at place mark)
opening_tagged file at place None = refl
opening_tagged file at place (Some said) =
    both (closing place) (mark_begin file at said) (closing_tagged place) (begin_tagged file at said)

in_line_tagged : (file at : ℕ) (place : Place) (mark : Option Said) (byte : ℕ) → IsTagged (in_line file at place mark byte)
unfolding in_line
in_line_tagged file at place mark byte =
    let front = opening file at place mark ++ escaped_byte byte in
    let inside = closing (place_in place mark) in
    both front (if byte == 59 then inside else [])
    (both (opening file at place mark) (escaped_byte byte) (opening_tagged file at place mark) (byte_tagged byte))
    (by_test IsTagged (byte == 59) inside [] (λ _. closing_tagged (place_in place mark)) (λ _. refl))

item_end : IsTagged (codes "</li>\n")
unfolding tags
item_end = refl

line_end_tagged : (place : Place) → IsTagged (line_end place)
line_end_tagged place = both (closing place) (codes "</li>\n") (closing_tagged place) item_end

piece_tagged : (file at : ℕ) (place : Place) (mark : Option Said) (byte : ℕ) → IsTagged (piece file at place mark byte)
unfolding piece
piece_tagged file at place mark byte =
    both (line_begin place) (if byte == 10 then line_end place else in_line file at place mark byte) (line_begin_tagged place)
    (by_test IsTagged (byte == 10) (line_end place) (in_line file at place mark byte) (λ _. line_end_tagged place)
    (λ _. in_line_tagged file at place mark byte))

text_end_tagged : (place : Place) → IsTagged (text_end place)
text_end_tagged Between = refl
text_end_tagged Line = line_end_tagged Line
text_end_tagged (Marked said) = line_end_tagged (Marked said)

lines_tagged : (file : ℕ) (mark : ℕ → Option Said) (place : Place) (at : ℕ) (text : List ℕ)
    → IsTagged (lines_from file mark place at text)
lines_tagged file mark place at [] = text_end_tagged place
lines_tagged file mark place at (byte ∷ text) =
    both (piece file at place (mark at) byte) (lines_from file mark (next_place place (mark at) byte) (suc at) text)
    (piece_tagged file at place (mark at) byte) (lines_tagged file mark (next_place place (mark at) byte) (suc at) text)

pub listing_tagged : (file : ℕ) (text : List ℕ) (pairs : List PairTold) → IsTagged (listing file text pairs)
unfolding tags
listing_tagged file [] pairs = refl
listing_tagged file (byte ∷ text) pairs =
    let lines = lines_tagged file (mark_at pairs) Between 0 (byte ∷ text) in simp after
