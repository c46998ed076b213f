-- The files of a page: the rows of the table, and a section for each.
use Rattle.std.specs.Prelude.{◌++◌, ℕ, suc, List, [], ◌∷◌, codes, length}
use Rattle.std.specs.Fmt.{decimal}
use Rattle.std.specs.List.{concat, flat_map}
use Rattle.race_page.specs.Counts.{count_cells, searched_text}
use Rattle.race_page.specs.Escape.{escaped}
use Rattle.race_page.specs.Listing.{listing}
use Rattle.race_page.specs.Pairs.{pair_text}
use Rattle.race_page.specs.Verdicts.{file_text, strong}
use Rattle.race_page.specs.declared.values.FileEnd.{FileEnd}
use Rattle.race_page.specs.declared.values.FileEnd.TheVariants.{Found, Refused}
use Rattle.race_page.specs.declared.values.FileTold.{FileTold}
use Rattle.race_page.specs.declared.values.RacesTold.{RacesTold}

-- that a file was refused
abbrev pub refused : List ℕ
refused = strong (codes "refused") (codes "refused")

-- what came of a file, in its row: its verdict and how many pairs have which, or why it was refused
unfoldable pub refused_cells : (why : List ℕ) → List ℕ
refused_cells why = concat
    (codes "<td>" ∷ refused ∷ codes "</td><td colspan=\"6\">" ∷ escaped why ∷ codes "</td>" ∷ [])

unfoldable pub found_cells : RacesTold → List ℕ
found_cells races = concat
    (codes "<td>" ∷ file_text races.verdict ∷ codes "</td>" ∷ count_cells races.pairs.items ∷ [])

abbrev pub end_cells : FileEnd → List ℕ
end_cells (Found races) = found_cells races
end_cells (Refused why) = refused_cells why.items

-- the row of the file of this number, whose name leads to its section
unfoldable pub file_row : (number : ℕ) → FileTold → List ℕ
file_row number file = concat
    (codes "<tr><th scope=\"row\"><a href=\"#f" ∷ decimal number ∷ codes "\">" ∷ escaped file.name.items
    ∷ codes "</a></th>" ∷ end_cells file.end ∷ codes "</tr>\n" ∷ [])

-- what came of a file, with its text
unfoldable pub refused_text : (number : ℕ) → (text why : List ℕ) → List ℕ
refused_text number text why = concat
    (codes "<p>" ∷ refused ∷ codes " " ∷ escaped why ∷ codes "</p>\n" ∷ listing number text [] ∷ [])

unfoldable pub found_text : (number : ℕ) → (text : List ℕ) → RacesTold → List ℕ
found_text number text races = concat
    (codes "<p>" ∷ file_text races.verdict ∷ codes " pairs that conflict: " ∷ decimal (length races.pairs.items)
    ∷ codes "</p>\n" ∷ listing number text races.pairs.items ∷ flat_map (pair_text number text) races.pairs.items
    ∷ searched_text races ∷ [])

abbrev pub end_text : (number : ℕ) → (text : List ℕ) → FileEnd → List ℕ
end_text number text (Found races) = found_text number text races
end_text number text (Refused why) = refused_text number text why.items

-- the section of the file of this number
unfoldable pub file_section : (number : ℕ) → FileTold → List ℕ
file_section number file = concat
    (codes "<section id=\"f" ∷ decimal number ∷ codes "\">\n<h2>" ∷ escaped file.name.items
    ∷ codes "</h2>\n<nav><a href=\"#\">all files</a></nav>\n" ∷ end_text number file.text.items file.end
    ∷ codes "</section>\n" ∷ [])

-- what is written of each file, by its number, from this one on
abbrev pub each_from : (ℕ → FileTold → List ℕ) → (number : ℕ) → List FileTold → List ℕ
each_from text number [] = []
each_from text number (file ∷ more) = text number file ++ each_from text (suc number) more
