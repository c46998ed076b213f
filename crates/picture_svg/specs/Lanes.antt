-- Where the lanes of a picture stand.
use Rattle.std.specs.Prelude.{◌+◌, ◌*◌, ◌/◌, ◌==◌, ◌∷◌, ℕ, List, [], fold, if◌then◌else◌, map, max, slice_index, sum}
use Rattle.access_types.specs.Stamped.{Stamped}
use Rattle.timeline.specs.Texts.{shortened}
use Rattle.timeline.specs.Lengths.{len_of}
use Rattle.timeline.specs.picture.Columns.{tasks}
use Rattle.timeline.specs.picture.Labels.{statement_of}
use Rattle.timeline.specs.picture.Told.{first_line, second_line}
use Rattle.timeline.specs.declared.picture.draw.Picture.{Picture}
use Rattle.timeline.specs.declared.picture.labels.Label.{Label}
use Rattle.timeline.specs.declared.picture.rows.Mark.{Mark}
use Rattle.timeline.specs.declared.picture.rows.Mark.TheVariants.{Begin, End, Race, Origin}
use Rattle.timeline.specs.declared.picture.rows.Row.{Row}
use Rattle.timeline.specs.declared.picture.watches.Watch.{Watch}
use Rattle.picture_svg.specs.declared.lanes.Lanes.{Lanes}
use Rattle.picture_svg.specs.Notes.{note}

-- how long the longest line of the label of an access is
abbrev pub label_len : List Label → Stamped → ℕ
label_len labels s =
    max (max (len_of (first_line shortened labels s)) (len_of (second_line s))) (len_of (shortened (statement_of labels s)))

-- how long the longest line is that stands at this mark in the lane of a task; 23 is room for any value
abbrev pub mark_len : List Label → List Watch → (task : ℕ) → Mark → ℕ
mark_len labels watches task (Begin s) = if s.access.task == task then label_len labels s else 0
mark_len labels watches task (End s) = if s.access.task == task then len_of (note watches s) else 0
mark_len labels watches task (Race setter finder) = 0
mark_len labels watches task (Origin setter old new) = if setter.access.task == task then 23 else 0

-- how long the longest line in the lane of a task is
abbrev pub longer : List Label → List Watch → (task len : ℕ) → Row → ℕ
longer labels watches task len row = max len (mark_len labels watches task row.mark)

abbrev pub lane_len : Picture → List Label → (task : ℕ) → ℕ
lane_len picture labels task = fold (longer labels picture.watches.items task) 0 picture.rows.items

-- how wide the lane is whose longest line is so long: one without text has no width
abbrev pub lane_width : ℕ → ℕ
lane_width len = if len == 0 then 0 else 2 + (36 * len + 99) / 100

-- how wide the lane of a task is
abbrev pub width_of : Picture → List Label → (task : ℕ) → ℕ
width_of picture labels task = lane_width (lane_len picture labels task)

-- where lanes of such widths begin, one behind the other
abbrev pub starts_from : (x : ℕ) → (widths : List ℕ) → List ℕ
starts_from x [] = []
starts_from x (width ∷ more) = x ∷ starts_from (x + width) more

-- the lanes of all tasks, behind a margin
unfoldable pub lanes_of : Picture → List Label → Lanes
lanes_of picture labels = record {
  starts = starts_from 1 (map (width_of picture labels) tasks);
  width = 1 + sum (map (width_of picture labels) tasks);
}

-- where the lane of a task begins
abbrev pub start : Lanes → (task : ℕ) → ℕ
start lanes task = slice_index lanes.starts task
