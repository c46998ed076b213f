-- The lines of a picture.
use Rattle.std.specs.Prelude.{◌==◌, ◌++◌, ℕ, List, [], codes, if◌then◌else◌, length, nat_le, nat_lt}
use Rattle.std.specs.Fmt.{decimal}
use Rattle.std.specs.List.{flat_map}
use Rattle.timeline.specs.picture.Running.{running}
use Rattle.timeline.specs.declared.picture.columns.Column.{Column}
use Rattle.picture_text.specs.Cells.{cell_of, cell_text}
use Rattle.picture_text.specs.declared.cells.Shape.{Shape}
use Rattle.picture_text.specs.declared.cells.Style.{Style}
use Rattle.picture_text.specs.declared.lines.Margin.{Margin}
use Rattle.picture_text.specs.declared.lines.Margin.TheVariants as margins

-- what fills a stamp up to five signs, and what stands behind it: one of more than five digits stands on a line of its
-- own
abbrev pub fill : ℕ → List ℕ
fill stamp = if nat_le stamp 9 then codes "    " else if nat_le stamp 99 then codes "   "
    else if nat_le stamp 999 then codes "  " else if nat_le stamp 9999 then codes " " else []

abbrev pub gap : ℕ → List ℕ
gap stamp = if nat_lt stamp 100000 then codes "  " else codes "\n       "

abbrev pub stamp_text : ℕ → List ℕ
stamp_text stamp = fill stamp ++ (decimal stamp ++ gap stamp)

-- what stands in front of a line
abbrev pub margin_text : Margin → List ℕ
margin_text margins.Empty = codes "       "
margin_text (margins.Stamp stamp) = stamp_text stamp

-- what stands in a column of a line at the stamp: a task without accesses has none
abbrev pub column_text : Style → Shape → (stamp : ℕ) → Column → List ℕ
column_text style shape stamp column =
    if length column.begins.items == 0 then [] else cell_text style (cell_of shape column.task (running column stamp))

abbrev pub cells : Style → Shape → (stamp : ℕ) → List Column → List ℕ
cells style shape stamp columns = flat_map (column_text style shape stamp) columns

-- a line at the stamp: what stands in front of its words, and these
abbrev pub bars : Style → List Column → (stamp : ℕ) → Margin → Shape → List ℕ
bars style columns stamp margin shape = margin_text margin ++ cells style shape stamp columns

abbrev pub line_of : Style → List Column → (stamp : ℕ) → Margin → Shape → List ℕ → List ℕ
line_of style columns stamp margin shape words = bars style columns stamp margin shape ++ words
