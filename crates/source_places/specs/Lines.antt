-- The lines of an output, each that names a site with where that stands behind it.
use Rattle.std.specs.Prelude.{◌==◌, ◌&&◌, ◌||◌, ◌++◌, ◌∷◌, [], ℕ, Bool, List, codes, drop, if◌then◌else◌, length, nat_eq}
use Rattle.std.specs.List.{starts_with}
use Rattle.program_table.specs.text_pieces.Shown.{cut}
use Rattle.source_places.specs.declared.lines.SitePlace.{SitePlace}

-- the line of a report that names a site, without the number of a repetition, and what stands behind it
abbrev pub Place : Type 0
Place = List ℕ × List ℕ

abbrev pub place_of : SitePlace → Place
place_of own = (own.line.items, own.place.items)

-- behind the name of a site stands nothing, or the number of a repetition
abbrev pub is_over : List ℕ → Bool
is_over rest = (length rest == 0) || starts_with nat_eq rest (codes " repeat ")

-- the line names the site that this line names
abbrev pub names : (line own : List ℕ) → Bool
names line own = starts_with nat_eq line own && is_over (drop (length own) line)

-- a line with a place behind it, cut to 100 columns
abbrev pub with_place : (line place : List ℕ) → List ℕ
with_place line place = cut (line ++ place) 100

-- a line, with the place of the first site behind it that it names
abbrev pub placed : List Place → List ℕ → List ℕ
placed [] line = line
placed (own ∷ more) line = if names line own.0 then with_place line own.1 else placed more line

-- the bytes behind those of a line so far, each line with its place
abbrev pub placed_from : List Place → (line bytes : List ℕ) → List ℕ
placed_from places line [] = placed places line
placed_from places line (byte ∷ more) =
    if byte == 10 then placed places line ++ 10 ∷ placed_from places [] more
    else placed_from places (line ++ byte ∷ []) more

-- the output, each line with its place
abbrev pub located : List Place → List ℕ → List ℕ
located places output = placed_from places [] output
