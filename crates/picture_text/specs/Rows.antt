-- The rows of a picture, as lines.
use Rattle.std.specs.Prelude.{◌==◌, ◌+◌, ◌++◌, ◌∷◌, ℕ, Bool, List, [], codes, if◌then◌else◌, length, max, min, nat_le}
use Rattle.std.specs.List.{concat, flat_map}
use Rattle.access_types.specs.ReportText.{hex}
use Rattle.access_types.specs.Stamped.{Stamped}
use Rattle.timeline.specs.Texts.{short, shortened}
use Rattle.timeline.specs.declared.texts.Markup.TheVariants.{Plain}
use Rattle.timeline.specs.Lengths.{len_of}
use Rattle.timeline.specs.declared.picture.columns.Column.{Column}
use Rattle.timeline.specs.declared.picture.labels.Label.{Label}
use Rattle.timeline.specs.declared.picture.rows.Mark.{Mark}
use Rattle.timeline.specs.declared.picture.rows.Mark.TheVariants as marks
use Rattle.timeline.specs.declared.picture.rows.Row.{Row}
use Rattle.picture_text.specs.Lines.{bars, line_of}
use Rattle.timeline.specs.picture.Labels.{statement_of}
use Rattle.timeline.specs.picture.Told.{first_line, second_line}
use Rattle.timeline.specs.picture.Words.{place_of}
use Rattle.picture_text.specs.declared.cells.Shape.TheVariants.{Bars, Begins, Ends, Race}
use Rattle.picture_text.specs.declared.cells.Style.{Style}
use Rattle.picture_text.specs.declared.lines.Margin.TheVariants.{Empty, Stamp}

-- the access is told in one line: its two lines are one of at most 65 columns
abbrev pub is_short : List Label → Stamped → Bool
is_short labels s = nat_le (len_of (first_line shortened labels s) + len_of (second_line s) + 2) 65

-- the begin of an access: in one line, or in two
abbrev pub begin_bars : Style → List Column → (stamp : ℕ) → Stamped → List ℕ
begin_bars style columns stamp s = bars style columns stamp (Stamp stamp) (Begins s.access.task)

abbrev pub short_text : Style → List Column → List Label → (stamp : ℕ) → Stamped → List ℕ
short_text style columns labels stamp s = begin_bars style columns stamp s
    ++ (first_line (short Plain) labels s ++ concat (codes ", " ∷ second_line s ∷ codes "\n" ∷ []))

abbrev pub second_text : Style → List Column → (stamp : ℕ) → Stamped → List ℕ
second_text style columns stamp s = line_of style columns stamp Empty Bars (concat (codes "   " ∷ second_line s ∷ codes "\n" ∷ []))

abbrev pub long_text : Style → List Column → List Label → (stamp : ℕ) → Stamped → List ℕ
long_text style columns labels stamp s = begin_bars style columns stamp s
    ++ (first_line (short Plain) labels s ++ (codes "\n" ++ second_text style columns stamp s))

abbrev pub label_text : Style → List Column → List Label → (stamp : ℕ) → Stamped → List ℕ
label_text style columns labels stamp s =
    if is_short labels s then short_text style columns labels stamp s else long_text style columns labels stamp s

-- the statement that makes it, if it is known, on a line of its own
abbrev pub known_statement : Style → List Column → (stamp : ℕ) → (statement : List ℕ) → List ℕ
known_statement style columns stamp statement = bars style columns stamp Empty Bars
    ++ (codes "   " ++ (short Plain statement ++ codes "\n"))

abbrev pub statement_text : Style → List Column → (stamp : ℕ) → (statement : List ℕ) → List ℕ
statement_text style columns stamp statement =
    if length statement == 0 then [] else known_statement style columns stamp statement

abbrev pub begin_text : Style → List Column → List Label → (stamp : ℕ) → Stamped → List ℕ
begin_text style columns labels stamp s = label_text style columns labels stamp s
    ++ statement_text style columns stamp (statement_of labels s)

-- the end of an access
abbrev pub end_text : Style → List Column → (stamp : ℕ) → Stamped → List ℕ
end_text style columns stamp s = line_of style columns stamp (Stamp stamp) (Ends s.access.task) (place_of s ++ codes " ends\n")

-- a race, from side to side
abbrev pub race_text : Style → List Column → (stamp : ℕ) → (setter finder : Stamped) → List ℕ
race_text style columns stamp setter finder =
    line_of style columns stamp Empty
    (Race (min setter.access.task finder.access.task) (max setter.access.task finder.access.task))
    (place_of setter ++ (codes " with " ++ (place_of finder ++ codes "\n")))

-- a change of unknown origin, and its values
abbrev pub changed_line : Style → List Column → (stamp : ℕ) → Stamped → List ℕ
changed_line style columns stamp s = line_of style columns stamp Empty Bars (place_of s ++ codes ": unknown origin\n")

abbrev pub values_line : Style → List Column → (stamp old new : ℕ) → List ℕ
values_line style columns stamp old new = line_of style columns stamp Empty Bars
    (codes "   old 0x" ++ (hex 1 old ++ (codes ", new 0x" ++ (hex 1 new ++ codes "\n"))))

abbrev pub origin_text : Style → List Column → (stamp : ℕ) → Stamped → (old new : ℕ) → List ℕ
origin_text style columns stamp s old new = changed_line style columns stamp s ++ values_line style columns stamp old new

-- what stands in a row
abbrev pub mark_text : Style → List Column → List Label → (stamp : ℕ) → Mark → List ℕ
mark_text style columns labels stamp (marks.Begin s) = begin_text style columns labels stamp s
mark_text style columns labels stamp (marks.End s) = end_text style columns stamp s
mark_text style columns labels stamp (marks.Race setter finder) = race_text style columns stamp setter finder
mark_text style columns labels stamp (marks.Origin s old new) = origin_text style columns stamp s old new

abbrev pub row_text : Style → List Column → List Label → Row → List ℕ
row_text style columns labels row = mark_text style columns labels row.stamp row.mark

abbrev pub rows_text : Style → List Column → List Label → List Row → List ℕ
rows_text style columns labels rows = flat_map (row_text style columns labels) rows
