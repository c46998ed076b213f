-- The text of a file with line numbers, in which each site is marked by its worst verdict.
use Rattle.std.specs.Prelude.{◌==◌, ◌++◌, ℕ, suc, List, [], ◌∷◌, None, Option, Some, codes, if◌then◌else◌}
use Rattle.std.specs.Fmt.{decimal}
use Rattle.std.specs.List.{concat}
use Rattle.race_output.specs.Words.{said_words}
use Rattle.race_output.specs.declared.words.Said.{Said}
use Rattle.race_page.specs.Escape.{escaped_byte}
use Rattle.race_page.specs.Marks.{mark_at}
use Rattle.race_page.specs.Verdicts.{said_class}
use Rattle.race_page.specs.declared.listing.Place.{Place}
use Rattle.race_page.specs.declared.listing.Place.TheVariants.{Between, Line, Marked}
use Rattle.race_page.specs.declared.values.PairTold.{PairTold}

-- where a byte of a line stands, where a mark may begin at it
abbrev pub place_in : Place → Option Said → Place
place_in place (Some said) = Marked said
place_in (Marked said) None = Marked said
place_in Between None = Line
place_in Line None = Line

-- the place behind a byte: a line feed ends the line, and a `;` the statement
abbrev pub next_place : Place → Option Said → (byte : ℕ) → Place
next_place place mark byte = if byte == 10 then Between else if byte == 59 then Line else place_in place mark

-- what ends a mark; the words of the verdict stand behind it
unfoldable pub mark_end : Said → List ℕ
mark_end said = concat
    (codes "</mark><small class=\"" ∷ said_class said ∷ codes "\">" ∷ said_words said ∷ codes "</small>" ∷ [])

-- what ends the mark that is open at a place, if one is
abbrev pub closing : Place → List ℕ
closing (Marked said) = mark_end said
closing place = []

-- what begins a mark behind so many bytes of the text of the file of this number
unfoldable pub mark_begin : (file at : ℕ) → Said → List ℕ
mark_begin file at said = concat
    (codes "<mark class=\"" ∷ said_class said ∷ codes "\" id=\"f" ∷ decimal file ∷ codes "s" ∷ decimal at
    ∷ codes "\">" ∷ [])

-- what begins a line, where none is open
abbrev pub line_begin : Place → List ℕ
line_begin Between = codes "<li>"
line_begin place = []

-- a mark begins, and another that is open ends there
abbrev pub opening : (file at : ℕ) → Place → Option Said → List ℕ
opening file at place None = []
opening file at place (Some said) = closing place ++ mark_begin file at said

-- a byte that ends no line
unfoldable pub in_line : (file at : ℕ) → Place → Option Said → (byte : ℕ) → List ℕ
in_line file at place mark byte =
    opening file at place mark ++ escaped_byte byte ++ (if byte == 59 then closing (place_in place mark) else [])

-- the end of a line
abbrev pub line_end : Place → List ℕ
line_end place = closing place ++ codes "</li>\n"

-- a byte of a text
unfoldable pub piece : (file at : ℕ) → Place → Option Said → (byte : ℕ) → List ℕ
piece file at place mark byte =
    line_begin place ++ (if byte == 10 then line_end place else in_line file at place mark byte)

-- the end of a text, whose last line may have no line feed
abbrev pub text_end : Place → List ℕ
text_end Between = []
text_end place = line_end place

-- The lines of what is left of a text, behind so many bytes, where marks stand at these places. The marks of a line are
-- closed in it.
abbrev pub lines_from : (file : ℕ) → (ℕ → Option Said) → Place → (at : ℕ) → List ℕ → List ℕ
lines_from file mark place at [] = text_end place
lines_from file mark place at (byte ∷ more) =
    piece file at place (mark at) byte ++ lines_from file mark (next_place place (mark at) byte) (suc at) more

-- The text of the file of this number, in which the sites of these pairs are marked: a list whose items are numbered
-- from 1. An empty text has none.
abbrev pub listing : (file : ℕ) → (text : List ℕ) → List PairTold → List ℕ
listing file [] pairs = []
listing file (byte ∷ more) pairs =
    concat (codes "<ol>\n" ∷ lines_from file (mark_at pairs) Between 0 (byte ∷ more) ∷ codes "</ol>\n" ∷ [])
