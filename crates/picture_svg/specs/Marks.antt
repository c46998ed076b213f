-- The rows of a picture.
use Rattle.std.specs.Prelude.{◌+◌, ◌++◌, ◌∷◌, [], ℕ, List}
use Rattle.timeline.specs.picture.Ordered.{rows_before}
use Rattle.timeline.specs.declared.picture.draw.Picture.{Picture}
use Rattle.timeline.specs.declared.picture.labels.Label.{Label}
use Rattle.timeline.specs.declared.picture.rows.Mark.{Mark}
use Rattle.timeline.specs.declared.picture.rows.Mark.TheVariants.{Begin, End, Race, Origin}
use Rattle.timeline.specs.declared.picture.rows.Row.{Row}
use Rattle.picture_svg.specs.declared.lanes.Lanes.{Lanes}
use Rattle.picture_svg.specs.Bars.{bar}
use Rattle.picture_svg.specs.Lanes.{start}
use Rattle.picture_svg.specs.Lines.{row_top}
use Rattle.picture_svg.specs.Notes.{note_text}
use Rattle.picture_svg.specs.Reports.{origin, race}

-- what is drawn of a mark in the row at this place: an access from its begin down to its end, what became of its
-- watchpoints where it ends, and a report
abbrev pub mark_text : Picture → List Label → Lanes → (place : ℕ) → Mark → List ℕ
mark_text picture labels lanes place (Begin s) = bar labels lanes s place (rows_before picture.rows.items s.end)
mark_text picture labels lanes place (End s) = note_text picture.watches.items s (start lanes s.access.task) (row_top place)
mark_text picture labels lanes place (Race setter finder) = race lanes setter finder (row_top place)
mark_text picture labels lanes place (Origin setter old new) = origin lanes setter old new (row_top place)

abbrev pub row_marks : Picture → List Label → Lanes → (place : ℕ) → Row → List ℕ
row_marks picture labels lanes place row = mark_text picture labels lanes place row.mark

-- what is drawn of these of the rows, the first of which stands at this place
abbrev pub rows_marks : Picture → List Label → Lanes → (place : ℕ) → List Row → List ℕ
rows_marks picture labels lanes place [] = []
rows_marks picture labels lanes place (row ∷ more) = row_marks picture labels lanes place row ++ rows_marks picture labels lanes (place + 1) more
