-- A picture, as text.
use Rattle.std.specs.Prelude.{◌==◌, ◌++◌, ℕ, Bool, List, [], codes, false, if◌then◌else◌, length, nat_lt}
use Rattle.std.specs.Fmt.{decimal}
use Rattle.std.specs.List.{flat_map}
use Rattle.timeline.specs.declared.picture.columns.Column.{Column}
use Rattle.timeline.specs.declared.picture.draw.Picture.{Picture}
use Rattle.timeline.specs.declared.picture.labels.Label.{Label}
use Rattle.picture_text.specs.Rows.{rows_text}
use Rattle.picture_text.specs.Watches.{gap_text, taking_text, watch_text}
use Rattle.picture_text.specs.declared.cells.Style.{Style}

-- what fills the heading of a task up to seven signs
abbrev pub fill : ℕ → List ℕ
fill task = if nat_lt task 10 then codes "     " else codes "    "

-- the heading of a column: a task without accesses has none
abbrev pub heading : Column → List ℕ
heading column = if length column.begins.items == 0 then [] else codes "P" ++ (decimal column.task ++ fill column.task)

-- the first line
abbrev pub head_text : List Column → List ℕ
head_text columns = codes "stamp  " ++ (flat_map heading columns ++ codes "access\n")

-- the picture: headings, rows, watchpoints and takings, where this is known of sites, and indices are told or not
abbrev pub detailed_picture : List Label → (slots : Bool) → Style → Picture → List ℕ
detailed_picture labels slots style picture = head_text picture.columns.items
    ++ (rows_text style picture.columns.items labels picture.rows.items
    ++ (gap_text picture.watches.items
    ++ (flat_map (watch_text slots) picture.watches.items ++ flat_map (taking_text slots) picture.takings.items)))

-- the same, where nothing more is known, without indices
abbrev pub picture_text : Style → Picture → List ℕ
picture_text style picture = detailed_picture [] false style picture
